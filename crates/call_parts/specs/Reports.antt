-- The report of a call that sent nothing over a line.
use Rattle.std.specs.Prelude.{◌≡◌, [], None}
use Rattle.call_parts.specs.declared.report.Report.{Report}
use Rattle.call_parts.specs.declared.report.SessionEnd.TheVariants.{NotStarted}

-- nothing was sent and nothing was done
pub record IsNotStarted (report : Report) : Type 0 where
  pub end : report.end ≡ NotStarted
  pub databases : report.databases.items ≡ []
  pub issued : report.issued.items ≡ []
  pub performed : report.performed.items ≡ []
  pub replies : report.replies.items ≡ []
  pub given : report.given.items ≡ []
  pub writes : report.writes ≡ 0
  pub frames : report.frames.items ≡ []
  pub faulted : report.faulted.items ≡ []
  pub to_handheld : report.to_handheld ≡ None
  pub to_desktop : report.to_desktop ≡ None
