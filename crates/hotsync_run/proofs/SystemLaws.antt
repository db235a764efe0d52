-- The program over the system, by what it was handed.
use Rattle.std.proofs.Common.{◌≡◌, ℕ, [], refl}
use Rattle.std.specs.Prelude.{Err, IfOk, IsErr, None, Ok, Option, Result, String, drop, map, string_bytes}
use Rattle.std.specs.Global.{Vec}
use Rattle.std.specs.declared.alloc.Global.{Global}
use Rattle.run_words.specs.Commands.{deed_of, task_of}
use Rattle.run_words.specs.Helps.{help_of}
use Rattle.hotsync_run.specs.Calls.{task_in}
use Rattle.cmd_status.specs.Codes.{code_of}
use Rattle.hotsync_run.specs.Systems.{EndsProgram, IsSystemCall}
use Rattle.call_parts.specs.declared.report.Report.{Report}
use Rattle.cmd_status.specs.declared.status.Status.{Status}

-- a call for the words that were handed over, or for none
pub ends-program : {E : Type 0} (now : Option ℕ) (args : Result (Vec (String Global)) E) {status : Status} {report : Report} {code : ℕ}
    → IfOk args (λ given. IsSystemCall (task_in now (drop 1 given.items)) status report) → (IsErr args → IsSystemCall None status report)
    → code ≡ code_of status → EndsProgram code
unfolding task_of deed_of help_of
ends-program now (Ok given) {status} {report} words none is =
    record { now = now; words = map string_bytes (drop 1 given.items); status = status; report = report; called = words; code_is = is }
ends-program now (Err fault) {status} {report} words none is =
    record { now = now; words = []; status = status; report = report; called = none refl; code_is = is }
