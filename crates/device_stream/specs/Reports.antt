-- What a talk performed, as lists of bytes.
use Rattle.std.specs.Prelude.{◌≤◌, ℕ, ◌+◌, List, [], ◌∷◌, ◌++◌, vec_capacity, vec_len}
use Rattle.line_world.specs.Logs.{texts}
use Rattle.device_stream.specs.declared.report.DeviceReport.{DeviceReport}

-- the requests that were performed, and the reply to each
pub record ReportValue : Type 0 where
  pub performed : List (List ℕ)
  pub replies : List (List ℕ)

abbrev pub report_value : DeviceReport → ReportValue
report_value report = record {
  performed = texts report.performed.items;
  replies = texts report.replies.items;
}

-- one request more, with its reply
abbrev pub with_exchange : ReportValue → List ℕ → List ℕ → ReportValue
with_exchange report request reply = record {
  performed = report.performed ++ request ∷ [];
  replies = report.replies ++ reply ∷ [];
}

-- there is memory for one more
pub record HasRoom (report : DeviceReport) : Type 0 where
  pub performed_has : vec_len report.performed + 1 ≤ vec_capacity report.performed
  pub replies_have : vec_len report.replies + 1 ≤ vec_capacity report.replies
