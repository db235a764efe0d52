-- What holds of every call over a cable, whatever stands behind the port.
use Rattle.std.specs.Prelude.{◌≡◌, ◌⊎◌, ℕ, List, length, Option, None, Some, [], IfErr, IfSome, Result, is_some, if◌then◌else◌}
use Rattle.std.specs.Global.{Vec}
use Rattle.std.specs.Option.{option_map}
use Rattle.hs_folders.specs.Causes.{Rose}
use Rattle.desk_journal.specs.Overlays.{finished}
use Rattle.desk_store.specs.Desks.{IsDesk}
use Rattle.desk_store.specs.Shelves.{SlotValue}
use Rattle.port_laws.specs.Palms.{Palm}
use Rattle.session_parts.specs.Rests.{IsAtRest}
use Rattle.run_words.specs.Cables.{Cable, only_of}
use Rattle.trace_text.specs.declared.frame.End.TheVariants as end
use Rattle.port_link.specs.Causes.{link_fault}
use Rattle.port_link.specs.Logs.{log_entries}
use Rattle.session_parts.specs.declared.report.DbReport.{DbReport}
use Rattle.session_parts.specs.declared.stop.Stop.{Stop}
use Rattle.sync_session.specs.StopCauses.{IsStopBy}
use Rattle.call_parts.specs.DoneLines.{done_lines}
use Rattle.call_parts.specs.TouchedLines.{touched_lines}
use Rattle.hotsync_looks.specs.Misuses.{IsMisuse}
use Rattle.cmd_status.specs.Opening.{Opens, OpensAtMost, OpensGiven, OpensGivenAtMost}
use Rattle.cmd_status.specs.Printed.{IsPrinted, IsPrintedStatus}
use Rattle.cmd_status.specs.Told.{SinkTold}
use Rattle.cmd_status.specs.declared.status.Status.{Status}
use Rattle.cmd_status.specs.declared.status.Status.TheVariants.{NoMemory, PortFailed, DesktopFolder, InUse, TraceWrite}
use Rattle.call_parts.specs.Causes.{ByEnd, HasBegun, IsTracedStatus}
use Rattle.call_parts.specs.Refusals.{HasDesktop, LeavesDesktopUnread}
use Rattle.call_parts.specs.Stays.{StandsAsItDid}
use Rattle.call_parts.specs.Stays.{StaysAsItWas}
use Rattle.call_parts.specs.Traces.{TakesTrace, TracesFrames}
use Rattle.call_parts.specs.declared.report.SessionEnd.{SessionEnd}
use Rattle.port_run.specs.Asking.{AsksCable}
use Rattle.port_run.specs.Ends.{BothLeft}
use Rattle.port_run.specs.Links.{LinkRan, answered, link_over}
use Rattle.port_run.specs.LogTexts.{cable_text}
use Rattle.port_run.specs.Refusals.{IsRefused}
use Rattle.port_run.specs.Reports.{IsOver, IsSilent}
use Rattle.port_run.specs.Talks.{DesktopRan, HasTalked, StaysUnsaid}
use Rattle.port_run.specs.Told.{PortTold, SyncTold}
use Rattle.port_run.specs.declared.synced.CableReport.{CableReport}

-- ---- a call without a session

-- Memory ran out, or what is judged before a session refuses the call. Nothing was said over the
-- port, the desktop's folder stands for what it stood for, and the trace took nothing.
pub record SentNothing (cable : Cable) (before after : SyncTold) (status : Status)
    (report : CableReport) : Type 0 where
  pub judged : (status ≡ NoMemory) ⊎ IsRefused cable before.desk.contents status
  pub silent : IsSilent report
  pub port : StaysUnsaid before.port after.port
  pub desktop : StandsAsItDid before.desk after.desk
  pub unread : LeavesDesktopUnread status → StaysAsItWas before.desk after.desk
  pub trace : after.trace.taken ≡ before.trace.taken

-- ---- a session

-- the status of a session over a cable that answered this, once its trace was to be written
pub record TellsSession (answer : Result (Vec DbReport) Stop) (report : CableReport)
    (status : Status) : Type 0 where
  pub said : Status
  pub over : IsOver answer report.end report.cause said
  pub traced : IsTracedStatus said status

-- What was said over the port once it was opened, what became of the desktop's folder, what the
-- session answered, whose status is told, why it stopped, where it did, what was asked, by the
-- replies, and what the trace took; and where the port tells a handheld on which nothing is open,
-- what is left of both sides.
pub record SessionRan (cable : Cable) (before after : SyncTold) (status : Status)
    (report : CableReport) : Type 0 where
  pub desktop : HasDesktop before.desk.contents
  pub opened : PortTold
  pub unsaid : StaysUnsaid before.port opened
  pub link : LinkRan opened after.port report.cause (log_entries report.log)
  pub changed : DesktopRan (option_map finished before.desk.contents) before.desk after.desk
      report.end
  pub answer : Result (Vec DbReport) Stop
  pub tells : TellsSession answer report status
  pub slots : List SlotValue
  pub slots_are : IsDesk (option_map finished before.desk.contents) slots
  pub why : IfErr answer (IsStopBy (option_map link_fault report.cause) (length slots))
  pub asked : AsksCable cable slots (option_map finished before.desk.contents) (link_over opened)
      link.last after.desk answer
  pub traced : TakesTrace cable.trace (cable_text (log_entries report.log)) before.trace after.trace
      status
  pub both : IfSome before.port.palm (λ (palm : Palm). IsAtRest palm.hand.device
      → BothLeft cable palm.hand.device after.port.palm before.desk after.desk
      (answered (link_over opened) link.last answer) report)

-- a session over opened objects, with a desktop of these slots, whose trace was to be written then
pub record TracesTalk (cable : Cable) (slots : List SlotValue) (opened after : SyncTold)
    (status : Status) (report : CableReport) : Type 0 where
  pub said : Status
  pub talked : HasTalked cable slots opened.port after.port opened.desk after.desk said report
  pub traces : TracesFrames cable.trace (cable_text (log_entries report.log)) opened.trace
      after.trace said status
  pub silent : report.log.items ≡ [] → after.trace.taken ≡ opened.trace.taken

-- ---- every call

-- a status that blames an object shows that object's count rise
pub record BlamesByCount (before after : SyncTold) (status : Status) : Type 0 where
  pub port : status ≡ PortFailed → Rose before.port.faults after.port.faults
  pub desktop : status ≡ DesktopFolder → Rose before.desk.faults after.desk.faults
  pub in_use : status ≡ InUse end.Desktop → Rose before.desk.faults after.desk.faults
  pub trace : status ≡ TraceWrite → Rose before.trace.faults after.trace.faults

-- Each object was opened at the path that the words give it, or not at all, and where a session
-- began it was.
pub record OpensNamed (cable : Cable) (before after : SyncTold) (end : SessionEnd) : Type 0 where
  pub port : OpensAtMost cable.port before.port.paths after.port.paths
  pub desktop : OpensAtMost cable.desktop before.desk.paths after.desk.paths
  pub trace : OpensGivenAtMost cable.trace before.trace.paths after.trace.paths
  pub port_opened : HasBegun end → Opens cable.port before.port.paths after.port.paths
  pub desktop_opened : HasBegun end → Opens cable.desktop before.desk.paths after.desk.paths
  pub trace_opened : HasBegun end → OpensGiven cable.trace before.trace.paths after.trace.paths

-- what is known of a call before its lines are printed: it sent nothing, or it had its session
pub record HasSynced (cable : Cable) (before after : SyncTold) (status : Status)
    (report : CableReport) : Type 0 where
  pub shown : ByEnd report.end (SentNothing cable before after status report)
      (SessionRan cable before after status report)
  pub blames : BlamesByCount before after status
  pub opened : OpensNamed cable before after report.end

-- the lines of a session that was done: where the words leave all databases alone but some, those of
-- these and how many others there are
abbrev pub synced_lines : Cable → List DbReport → List ℕ
synced_lines cable databases =
    if is_some (only_of cable) then touched_lines databases else done_lines databases

-- What is known of a call: this of a status, and that standard output took exactly the lines of the
-- one that stands once they were to be printed.
pub record IsSync (cable : Cable) (before after : SyncTold) (out out_after : SinkTold)
    (status : Status) (report : CableReport) : Type 0 where
  pub found : Status
  pub ran : HasSynced cable before after found report
  pub status_is : IsPrintedStatus found status
  pub printed : IsPrinted (λ text. text ≡ synced_lines cable report.databases.items) out out_after
      status

-- words out of the form give the usage line, with the word at fault behind it where it is named,
-- and nothing is done
pub record IsNothing (before after : SyncTold) (out out_after : SinkTold) (status : Status)
    (report : CableReport) : Type 0 where
  pub ended : IsMisuse status ⊎ (status ≡ NoMemory)
  pub same : after ≡ before
  pub silent : IsSilent report
  pub printed : IsPrinted (λ text. ⊥) out out_after status

-- what is known of a call, by what its words ask for
abbrev pub IsSyncCall : Option Cable → SyncTold → SyncTold → SinkTold → SinkTold → Status
    → CableReport → Type 0
IsSyncCall None before after out out_after status report =
    IsNothing before after out out_after status report
IsSyncCall (Some cable) before after out out_after status report =
    IsSync cable before after out out_after status report
