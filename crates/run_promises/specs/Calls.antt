-- Calls that were answered.
use Rattle.std.specs.Prelude.{Option}
use Rattle.run_words.specs.Commands.{WordTask}
use Rattle.hotsync_run.specs.Calls.{IsCall}
use Rattle.cmd_status.specs.Told.{SinkTold}
use Rattle.call_parts.specs.Told.{CallTold}
use Rattle.call_parts.specs.declared.report.Report.{Report}
use Rattle.cmd_status.specs.declared.status.Status.{Status}

-- a call: what its words ask for, its objects before and after it, and what it answered
pub record Call : Type 0 where
  pub task : Option WordTask
  pub before : CallTold
  pub after : CallTold
  pub out : SinkTold
  pub out_after : SinkTold
  pub err : SinkTold
  pub err_after : SinkTold
  pub status : Status
  pub report : Report

-- what the contract of the program says of it
abbrev pub IsAnsweredCall : Call → Type 0
IsAnsweredCall call =
    IsCall call.task call.before call.after call.out call.out_after call.err call.err_after
    call.status call.report
