-- A run as a call: what it was given, and what it answered.
use Rattle.run_words.specs.Runs.{Run}
use Rattle.call_parts.specs.Told.{CallTold}
use Rattle.call_parts.specs.declared.report.Report.{Report}
use Rattle.cmd_session.specs.Runs.{IsRun}
use Rattle.cmd_status.specs.Told.{SinkTold}
use Rattle.cmd_status.specs.declared.status.Status.{Status}

-- a call for the words of a run: its objects before and after it, and what it answered
pub record RunCall : Type 0 where
  pub run : Run
  pub before : CallTold
  pub after : CallTold
  pub out : SinkTold
  pub out_after : SinkTold
  pub status : Status
  pub report : Report

-- what the contract of the program says of it
abbrev pub IsAnsweredRun : RunCall → Type 0
IsAnsweredRun call =
    IsRun call.run call.before call.after call.out call.out_after call.status call.report
