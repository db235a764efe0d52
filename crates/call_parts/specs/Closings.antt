-- How a session over a line is told once it is over, by what it answered.
use Rattle.std.specs.Prelude.{◌≡◌, ◌⊎◌, List, [], length, None, Option, Result, Ok, Err}
use Rattle.std.specs.Global.{Vec}
use Rattle.trace_text.specs.Tallies.{IsFairUpTo}
use Rattle.line_script.specs.Scripts.{fate_by}
use Rattle.line_world.specs.Causes.{BearsOut, IsCause, down_end}
use Rattle.line_world.specs.Worlds.{WorldValue}
use Rattle.line_world.specs.declared.down.Down.{Down}
use Rattle.session_parts.specs.declared.report.DbReport.{DbReport}
use Rattle.session_parts.specs.declared.stop.Stop.{Stop}
use Rattle.call_parts.specs.Causes.{numbers_by, stop_status}
use Rattle.call_parts.specs.LineRuns.{TellsWorld}
use Rattle.call_parts.specs.declared.left.Left.{Left}
use Rattle.call_parts.specs.declared.report.Report.{Report}
use Rattle.call_parts.specs.declared.report.SessionEnd.{SessionEnd}
use Rattle.call_parts.specs.declared.report.SessionEnd.TheVariants.{Ended, Stopped}
use Rattle.cmd_status.specs.declared.status.Status.{Status}
use Rattle.cmd_status.specs.declared.status.Status.TheVariants.{Done, NoMemory}

abbrev pub left_status : Option Down → Result (Vec DbReport) Stop → Status
left_status cause (Ok reports) = Done
left_status cause (Err stop) = stop_status cause stop

abbrev pub left_end : Result (Vec DbReport) Stop → SessionEnd
left_end (Ok reports) = Ended
left_end (Err stop) = Stopped

-- what was done with each database, where it ended
abbrev pub left_databases : Result (Vec DbReport) Stop → List DbReport
left_databases (Ok reports) = reports.items
left_databases (Err stop) = []

-- how a session ended that answered this, over a line that is down for this cause, if it is
pub record IsLeft (answer : Result (Vec DbReport) Stop) (cause : Option Down) (left : Left)
    : Type 0 where
  pub status : (left.status ≡ left_status cause answer) ⊎ (left.status ≡ NoMemory)
  pub end : left.end ≡ left_end answer
  pub databases : left.databases.items ≡ left_databases answer
  pub faulted : left.faulted.items ≡ numbers_by left.status cause

-- how a status and a report tell it
abbrev pub left_in : Status → Report → Left
left_in status report = record {
  status = status;
  end = report.end;
  databases = report.databases;
  faulted = report.faulted;
}

-- How a session over a world is told that answered this. The status and the report say how it
-- ended, and the report tells all of the world. The frames bear out for what cause the world is
-- down, if it is, and where the script is fair no line is.
pub record Closes {F : Type 0} (world : WorldValue F) (answer : Result (Vec DbReport) Stop)
    (status : Status) (report : Report) : Type 0 where
  pub left : IsLeft answer world.cause (left_in status report)
  pub tells : TellsWorld world report
  pub caused : IsCause world.fault world.cause
  pub borne_out : BearsOut world.cause world.frames
  pub fair : IsFairUpTo (length world.frames) (fate_by world.script) → down_end world.cause ≡ None
