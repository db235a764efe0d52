-- What holds of every call with a handheld at a port and a folder of files, by what its command
-- promises of its own.
use Rattle.std.specs.Prelude.{◌≡◌, ◌⊎◌, Option, None, Some, IfSome, Result}
use Rattle.std.specs.Global.{Vec}
use Rattle.hs_folders.specs.FileMaps.{FileMap}
use Rattle.session_parts.specs.Rests.{IsAtRest}
use Rattle.session_parts.specs.declared.report.DbReport.{DbReport}
use Rattle.session_parts.specs.declared.stop.Stop.{Stop}
use Rattle.port_laws.specs.Palms.{Palm}
use Rattle.port_link.specs.Logs.{log_entries}
use Rattle.run_words.specs.Porteds.{Ported}
use Rattle.cmd_status.specs.Opening.{Opens, OpensAtMost, OpensGiven, OpensGivenAtMost}
use Rattle.cmd_status.specs.Printed.{IsPrinted, IsPrintedStatus}
use Rattle.cmd_status.specs.Told.{SinkTold}
use Rattle.cmd_status.specs.declared.status.Status.{Status}
use Rattle.cmd_status.specs.declared.status.Status.TheVariants.{NoMemory}
use Rattle.call_parts.specs.Causes.{ByEnd, HasBegun}
use Rattle.call_parts.specs.DoneLines.{done_lines}
use Rattle.call_parts.specs.Refusals.{TraceRefuses}
use Rattle.call_parts.specs.Stays.{StaysAsItWas}
use Rattle.call_parts.specs.Traces.{TakesTrace}
use Rattle.call_parts.specs.declared.report.SessionEnd.{SessionEnd}
use Rattle.port_run.specs.Links.{LinkRan, answered, link_over}
use Rattle.port_run.specs.LogTexts.{cable_text}
use Rattle.port_run.specs.Refusals.{IsPortRefusal}
use Rattle.port_run.specs.Reports.{IsSilent}
use Rattle.port_run.specs.Syncs.{BlamesByCount, IsNothing, TellsSession}
use Rattle.port_run.specs.Talks.{StaysUnsaid}
use Rattle.port_run.specs.Told.{PortTold, SyncTold}
use Rattle.port_run.specs.declared.synced.CableReport.{CableReport}
use Rattle.port_files.specs.Talks.{PortCommand}

-- ---- nothing was sent

-- the port is opened first, then the folder is judged, whose files are these, and last the trace is
-- opened
abbrev pub IsRefused : PortCommand → Option FileMap → Status → Type 0
IsRefused command kept refusal =
    IsPortRefusal refusal
    ⊎ (command.Refuses kept refusal
    ⊎ (command.Has kept × TraceRefuses command.words.trace refusal))

-- Memory ran out, or what is judged before a session refuses the call. Nothing was said over the
-- port, the folder was only read, and the trace took nothing.
pub record SentNothing (command : PortCommand) (before after : SyncTold) (status : Status)
    (report : CableReport) : Type 0 where
  pub judged : (status ≡ NoMemory) ⊎ IsRefused command before.desk.contents status
  pub silent : IsSilent report
  pub port : StaysUnsaid before.port after.port
  pub folder : StaysAsItWas before.desk after.desk
  pub trace : after.trace.taken ≡ before.trace.taken

-- ---- a session

-- What was said over the port once it was opened, what the session answered, whose status is told,
-- what it left of the folder, and what the trace took; and where the port tells a handheld on which
-- nothing is open, what is left of that.
pub record PortRan (command : PortCommand) (before after : SyncTold) (status : Status)
    (report : CableReport) : Type 0 where
  pub has : command.Has before.desk.contents
  pub opened : PortTold
  pub unsaid : StaysUnsaid before.port opened
  pub link : LinkRan opened after.port report.cause (log_entries report.log)
  pub answer : Result (Vec DbReport) Stop
  pub tells : TellsSession answer report status
  pub left : command.Left before.desk after.desk report
  pub traced : TakesTrace command.words.trace (cable_text (log_entries report.log)) before.trace
      after.trace status
  pub both : IfSome before.port.palm (λ (palm : Palm). IsAtRest palm.hand.device
      → command.Both palm.hand.device after.port.palm before.desk after.desk
      (answered (link_over opened) link.last answer) report)

-- ---- every call

-- Each object was opened at the path that the words give it, or not at all, and where a session
-- began it was.
pub record OpensPorted (words : Ported) (before after : SyncTold) (end : SessionEnd) : Type 0 where
  pub port : OpensAtMost words.port before.port.paths after.port.paths
  pub folder : OpensAtMost words.other before.desk.paths after.desk.paths
  pub trace : OpensGivenAtMost words.trace before.trace.paths after.trace.paths
  pub port_opened : HasBegun end → Opens words.port before.port.paths after.port.paths
  pub folder_opened : HasBegun end → Opens words.other before.desk.paths after.desk.paths
  pub trace_opened : HasBegun end → OpensGiven words.trace before.trace.paths after.trace.paths

-- what is known of a call before its lines are printed: it sent nothing, or it had its session
pub record MayTalk (command : PortCommand) (before after : SyncTold) (status : Status)
    (report : CableReport) : Type 0 where
  pub shown : ByEnd report.end (SentNothing command before after status report)
      (PortRan command before after status report)
  pub blames : BlamesByCount before after status
  pub opened : OpensPorted command.words before after report.end

-- What is known of a call: this of a status, and that standard output took exactly the lines of the
-- one that stands once they were to be printed.
pub record IsCalled (command : PortCommand) (before after : SyncTold) (out out_after : SinkTold)
    (status : Status) (report : CableReport) : Type 0 where
  pub found : Status
  pub ran : MayTalk command before after found report
  pub status_is : IsPrintedStatus found status
  pub printed : IsPrinted (λ text. text ≡ done_lines report.databases.items) out out_after status

-- what is known of a call, by what its words ask for
abbrev pub IsPortCall : (Ported → PortCommand) → Option Ported → SyncTold → SyncTold → SinkTold
    → SinkTold → Status → CableReport → Type 0
IsPortCall command None before after out out_after status report =
    IsNothing before after out out_after status report
IsPortCall command (Some words) before after out out_after status report =
    IsCalled (command words) before after out out_after status report
