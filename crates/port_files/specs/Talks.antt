-- A session with a handheld at an opened port, over an opened folder.
use Rattle.std.specs.Prelude.{◌≡◌, [], Option, IfSome, Result}
use Rattle.std.specs.Global.{Vec}
use Rattle.hs_folders.specs.Causes.{Rose}
use Rattle.hs_folders.specs.FileMaps.{FileMap}
use Rattle.palm_device.specs.Devices.{Device}
use Rattle.session_parts.specs.Rests.{IsAtRest}
use Rattle.session_parts.specs.declared.report.DbReport.{DbReport}
use Rattle.session_parts.specs.declared.stop.Stop.{Stop}
use Rattle.port_laws.specs.Palms.{Palm}
use Rattle.port_link.specs.Logs.{log_entries}
use Rattle.run_words.specs.Porteds.{Ported}
use Rattle.cmd_status.specs.declared.status.Status.{Status}
use Rattle.cmd_status.specs.declared.status.Status.TheVariants.{PortFailed, DesktopFolder}
use Rattle.call_parts.specs.Causes.{ByEnd}
use Rattle.call_parts.specs.Told.{FolderTold}
use Rattle.call_parts.specs.Traces.{TracesFrames}
use Rattle.port_run.specs.Links.{Answered, LinkRan, answered, link_over}
use Rattle.port_run.specs.LogTexts.{cable_text}
use Rattle.port_run.specs.Reports.{IsOver}
use Rattle.port_run.specs.Talks.{KeptSilent}
use Rattle.port_run.specs.Told.{PortTold, SyncTold}
use Rattle.port_run.specs.declared.synced.CableReport.{CableReport}

-- A command at a port, by the words for it: what refuses its folder, what that has to hold, what
-- its session leaves of the folder whatever comes over the port, and what else is left where the
-- port told a handheld on which nothing was open, by what the port tells then.
pub record PortCommand : Type 1 where
  pub words : Ported
  pub Refuses : Option FileMap → Status → Type 0
  pub Has : Option FileMap → Type 0
  pub Left : FolderTold → FolderTold → CableReport → Type 0
  pub Both : Device → Option Palm → FolderTold → FolderTold → Answered → CableReport → Type 0

-- The session: what was said and heard, what it answered, whose status is told, and what it left.
pub record HadTalk (command : PortCommand) (before after : PortTold)
    (folder folder_after : FolderTold) (status : Status) (report : CableReport) : Type 0 where
  pub link : LinkRan before after report.cause (log_entries report.log)
  pub answer : Result (Vec DbReport) Stop
  pub over : IsOver answer report.end report.cause status
  pub left : command.Left folder folder_after report
  pub both : IfSome before.palm (λ (palm : Palm). IsAtRest palm.hand.device
      → command.Both palm.hand.device after.palm folder folder_after
      (answered (link_over before) link.last answer) report)

-- what is known of it: it kept silent for want of memory, or it had the session
pub record HasTalk (command : PortCommand) (before after : PortTold)
    (folder folder_after : FolderTold) (status : Status) (report : CableReport) : Type 0 where
  pub shown : ByEnd report.end (KeptSilent before after folder folder_after status report)
      (HadTalk command before after folder folder_after status report)
  pub port : status ≡ PortFailed → Rose before.faults after.faults
  pub desktop : status ≡ DesktopFolder → Rose folder.faults folder_after.faults
  pub port_paths : after.paths ≡ before.paths
  pub folder_paths : folder_after.paths ≡ folder.paths

-- the same over opened objects, whose trace was to be written then
pub record TracesPort (command : PortCommand) (opened after : SyncTold) (status : Status)
    (report : CableReport) : Type 0 where
  pub said : Status
  pub talked : HasTalk command opened.port after.port opened.desk after.desk said report
  pub traces : TracesFrames command.words.trace (cable_text (log_entries report.log)) opened.trace
      after.trace said status
  pub silent : report.log.items ≡ [] → after.trace.taken ≡ opened.trace.taken
