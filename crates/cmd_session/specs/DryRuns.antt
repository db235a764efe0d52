-- What holds of every dry run: it is a run over copies of both folders, which are only read.
use Rattle.std.specs.Prelude.{◌≡◌, IfSome, Some}
use Rattle.hs_folders.specs.Causes.{Rose}
use Rattle.folder_copies.specs.Copies.{IsCopy}
use Rattle.run_words.specs.Runs.{Run}
use Rattle.cmd_session.specs.Runs.{HasRun, IsRun, run_paths}
use Rattle.call_parts.specs.SessionCalls.{BlamesByCount, OpensNamed}
use Rattle.call_parts.specs.Stays.{StaysAsItWas}
use Rattle.cmd_status.specs.Told.{SinkTold}
use Rattle.call_parts.specs.Told.{CallTold, FolderTold, SidesTold}
use Rattle.call_parts.specs.declared.report.Report.{Report}
use Rattle.cmd_status.specs.declared.status.Status.{Status}

-- A folder was only read. At first its copy held all that it held; or the copy tells nothing, and
-- the folder failed while it was read.
pub record IsCopiedAs (before after copied : FolderTold) : Type 0 where
  pub stays : StaysAsItWas before after
  pub copied_is : IsCopy before.contents before.faults after.faults copied.contents

-- what the objects of a call tell, with these folders in the place of its own
abbrev pub over : SidesTold → CallTold → CallTold
over sides told = record {
  palm = sides.palm;
  desk = sides.desk;
  source = told.source;
  trace = told.trace;
}

-- What is known of the run between the copies, of what they told at first and of what they tell at
-- last; and of the folders themselves. Each was opened at the path that the words give it, and one
-- that is blamed failed.
pub record RanOverCopies (Ran : CallTold → CallTold → Type 0) (run : Run) (before after : CallTold)
    (status : Status) (report : Report) : Type 0 where
  pub copies : SidesTold
  pub left : SidesTold
  pub ran : Ran (over copies before) (over left after)
  pub handheld : IsCopiedAs before.palm after.palm copies.palm
  pub desktop : IsCopiedAs before.desk after.desk copies.desk
  pub blames : BlamesByCount before after status
  pub opened : OpensNamed (run_paths run) before after report.end

-- what is known of a dry run before its lines are printed
abbrev pub HasDryRun : Run → CallTold → CallTold → Status → Report → Type 0
HasDryRun run before after status report =
    RanOverCopies (λ first last. HasRun run first last status report) run before after status report

-- What is known of a dry run: all that is known of a run over folders that hold the same.
abbrev pub IsDryRun : Run → CallTold → CallTold → SinkTold → SinkTold → Status → Report → Type 0
IsDryRun run before after out out_after status report =
    RanOverCopies (λ first last. IsRun run first last out out_after status report) run before after
    status report

-- Objects that tell what those of a call told before it: a folder that did not fail in the call
-- holds what it held.
pub record HoldTheSame (before after copied : CallTold) : Type 0 where
  pub handheld : ¬ (Rose before.palm.faults after.palm.faults)
      → IfSome before.palm.contents (λ held. copied.palm.contents ≡ Some held)
  pub desktop : ¬ (Rose before.desk.faults after.desk.faults)
      → IfSome before.desk.contents (λ held. copied.desk.contents ≡ Some held)
  pub source : copied.source ≡ before.source
  pub trace : copied.trace ≡ before.trace
