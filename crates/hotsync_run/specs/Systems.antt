-- A call over the folders, files and standard output of the system.
use Rattle.std.specs.Prelude.{◌≡◌, ℕ, List, Option, None}
use Rattle.run_words.specs.Commands.{WordTask, task_of}
use Rattle.hotsync_run.specs.Calls.{IsCall}
use Rattle.cmd_status.specs.Codes.{code_of}
use Rattle.cmd_status.specs.Told.{SinkTold}
use Rattle.call_parts.specs.Told.{CallTold}
use Rattle.call_parts.specs.declared.report.Report.{Report}
use Rattle.cmd_status.specs.declared.status.Status.{Status}

-- objects that tell nothing of what they hold, as those of the system
pub record AreUntold (before : CallTold) (out : SinkTold) : Type 0 where
  pub palm : before.palm.contents ≡ None
  pub desk : before.desk.contents ≡ None
  pub source : before.source.left ≡ None
  pub trace : before.trace.taken ≡ None
  pub printed : out.taken ≡ None

-- a call for this task, over such objects, answered so
pub record IsSystemCall (task : Option WordTask) (status : Status) (report : Report) : Type 0 where
  pub before : CallTold
  pub after : CallTold
  pub out : SinkTold
  pub out_after : SinkTold
  pub err : SinkTold
  pub err_after : SinkTold
  pub untold : AreUntold before out
  pub called : IsCall task before after out out_after err err_after status report

-- The program ended with the exit status of such a call, for the words that it was called with and
-- the date now. Nothing says which words the system hands over, and which date it tells.
pub record EndsProgram (code : ℕ) : Type 0 where
  pub now : Option ℕ
  pub words : List (List ℕ)
  pub status : Status
  pub report : Report
  pub called : IsSystemCall (task_of now words) status report
  pub code_is : code ≡ code_of status
