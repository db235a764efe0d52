-- What holds of every call that may have a session, by what its command promises of its own.
use Rattle.std.specs.Prelude.{◌≡◌, ◌⊎◌, List, Option, Some, ℕ}
use Rattle.hs_folders.specs.Causes.{Rose}
use Rattle.trace_text.specs.declared.frame.End.TheVariants as end
use Rattle.run_words.specs.Betweens.{Between}
use Rattle.call_parts.specs.Causes.{ByEnd, HasBegun}
use Rattle.call_parts.specs.DoneLines.{done_lines}
use Rattle.cmd_status.specs.Opening.{OpensGiven, OpensGivenAtMost}
use Rattle.cmd_status.specs.Printed.{IsPrinted}
use Rattle.call_parts.specs.Reports.{IsNotStarted}
use Rattle.call_parts.specs.Sessions.{BlamesFolders}
use Rattle.cmd_status.specs.Told.{SinkTold}
use Rattle.call_parts.specs.Stays.{StaysAsItWas}
use Rattle.call_parts.specs.Told.{CallTold, FolderTold, sides_of}
use Rattle.call_parts.specs.Undisturbed.{EndsWell}
use Rattle.call_parts.specs.declared.report.Report.{Report}
use Rattle.call_parts.specs.declared.report.SessionEnd.{SessionEnd}
use Rattle.cmd_status.specs.declared.status.Status.{Status}
use Rattle.cmd_status.specs.declared.status.Status.TheVariants.{SourceRead, TraceWrite, NoMemory, InUse}

-- ---- what a command is

-- the paths that words give to each object, if any
pub record Paths : Type 0 where
  pub handheld : Option (List ℕ)
  pub desktop : Option (List ℕ)
  pub source : Option (List ℕ)
  pub trace : Option (List ℕ)

-- those of words for a handheld and another folder, beside a script and a trace
abbrev pub between_paths : Between → Paths
between_paths words = record {
  handheld = Some words.handheld;
  desktop = Some words.other;
  source = words.script;
  trace = words.trace;
}

-- A command with a session, by the words for it: the paths of its objects, what refuses it before
-- its session, what is kept of the desktop's folder then, what is known of its session, and when
-- nothing disturbs it.
pub record SessionCommand : Type 1 where
  pub paths : Paths
  pub Judged : CallTold → Status → Type 0
  pub Kept : FolderTold → FolderTold → Status → Type 0
  pub Had : CallTold → CallTold → Status → Report → Type 0
  pub Undisturbed : CallTold → CallTold → SinkTold → SinkTold → Report → Type 0

-- ---- nothing was sent

-- Memory ran out, or what is judged before a session refuses the call. The handheld's folder was
-- only read, what is kept of the desktop's is, and the trace took nothing.
pub record SentNothing (command : SessionCommand) (before after : CallTold) (status : Status)
    (report : Report) : Type 0 where
  pub judged : (status ≡ NoMemory) ⊎ command.Judged before status
  pub report_is : IsNotStarted report
  pub handheld : StaysAsItWas before.palm after.palm
  pub desktop : command.Kept before.desk after.desk status
  pub trace : after.trace.taken ≡ before.trace.taken

-- ---- every call

-- a status that blames an object shows that object's count rise
pub record BlamesByCount (before after : CallTold) (status : Status) : Type 0 where
  pub source : status ≡ SourceRead → Rose before.source.faults after.source.faults
  pub folders : BlamesFolders (sides_of before) (sides_of after) status
  pub handheld_in_use : status ≡ InUse end.Handheld → Rose before.palm.faults after.palm.faults
  pub desktop_in_use : status ≡ InUse end.Desktop → Rose before.desk.faults after.desk.faults
  pub trace : status ≡ TraceWrite → Rose before.trace.faults after.trace.faults

-- Each object was opened at the path that the words give it, or not at all, and where a session
-- began it was.
pub record OpensNamed (paths : Paths) (before after : CallTold) (end : SessionEnd) : Type 0 where
  pub handheld : OpensGivenAtMost paths.handheld before.palm.paths after.palm.paths
  pub desktop : OpensGivenAtMost paths.desktop before.desk.paths after.desk.paths
  pub source : OpensGivenAtMost paths.source before.source.paths after.source.paths
  pub trace : OpensGivenAtMost paths.trace before.trace.paths after.trace.paths
  pub handheld_opened : HasBegun end → OpensGiven paths.handheld before.palm.paths after.palm.paths
  pub desktop_opened : HasBegun end → OpensGiven paths.desktop before.desk.paths after.desk.paths
  pub source_opened : HasBegun end → OpensGiven paths.source before.source.paths after.source.paths
  pub trace_opened : HasBegun end → OpensGiven paths.trace before.trace.paths after.trace.paths

-- What is known of a call before its lines are printed: it sent nothing, or it had its session. A
-- clause on what an object holds speaks where that object tells it.
pub record MayHaveSession (command : SessionCommand) (before after : CallTold) (status : Status)
    (report : Report) : Type 0 where
  pub shown : ByEnd report.end (SentNothing command before after status report)
      (command.Had before after status report)
  pub blames : BlamesByCount before after status
  pub opened : OpensNamed command.paths before after report.end

-- What is known of a call: this, and that standard output took exactly the lines of its status. One
-- that nothing disturbs is done whole.
pub record IsSessionCall (command : SessionCommand) (before after : CallTold)
    (out out_after : SinkTold) (status : Status) (report : Report) : Type 0 where
  pub ran : MayHaveSession command before after status report
  pub printed : IsPrinted (λ text. text ≡ done_lines report.databases.items) out out_after status
  pub complete : command.Undisturbed before after out out_after report → EndsWell status report
