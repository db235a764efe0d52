-- A session over a cable, whatever is written of it.
use Rattle.std.specs.Prelude.{◌≡◌, ◌⊎◌, ℕ, List, length, Option, IfErr, IfSome, Result}
use Rattle.std.specs.Global.{Vec}
use Rattle.std.specs.List.{AllByRecursion}
use Rattle.std.specs.Option.{option_map}
use Rattle.hs_folders.specs.Causes.{Rose}
use Rattle.hs_folders.specs.FileMaps.{FileMap}
use Rattle.hs_folders.specs.Moments.{EachMomentSince, Moments}
use Rattle.desk_journal.specs.Entries.{EntryValue}
use Rattle.desk_journal.specs.Overlays.{FinishesAs, put_all}
use Rattle.desk_store.specs.Shelves.{SlotValue}
use Rattle.port_laws.specs.Palms.{Palm}
use Rattle.run_words.specs.Cables.{Cable}
use Rattle.session_parts.specs.Rests.{IsAtRest}
use Rattle.sync_session.specs.Leaving.{IsSlotsFile}
use Rattle.port_link.specs.Logs.{log_entries}
use Rattle.cmd_status.specs.declared.status.Status.{Status}
use Rattle.cmd_status.specs.declared.status.Status.TheVariants.{NoMemory, PortFailed, DesktopFolder}
use Rattle.call_parts.specs.Causes.{ByEnd}
use Rattle.call_parts.specs.Told.{FolderTold}
use Rattle.call_parts.specs.declared.report.SessionEnd.{SessionEnd}
use Rattle.call_parts.specs.declared.report.SessionEnd.TheVariants.{Ended}
use Rattle.port_run.specs.Asking.{AsksCable}
use Rattle.port_run.specs.Ends.{LeftFor}
use Rattle.port_run.specs.Links.{LinkRan, answered, link_over}
use Rattle.port_link.specs.Causes.{link_fault}
use Rattle.session_parts.specs.declared.report.DbReport.{DbReport}
use Rattle.session_parts.specs.declared.stop.Stop.{Stop}
use Rattle.sync_session.specs.StopCauses.{IsStopBy}
use Rattle.port_run.specs.Reports.{IsOver, IsSilent}
use Rattle.port_run.specs.Told.{PortTold}
use Rattle.port_run.specs.declared.synced.CableReport.{CableReport}

-- nothing was said or heard, and the handheld behind the port is as it was
pub record StaysUnsaid (before after : PortTold) : Type 0 where
  pub given : after.given ≡ before.given
  pub taken : after.taken ≡ before.taken
  pub palm : after.palm ≡ before.palm

-- The desktop's folder, whose files are these once a journal that was left is finished, was changed
-- once at most, whatever came over the port: an ended session has put some files over the others,
-- all of one slot or the information file. One that stopped left it standing for what it stood for
-- at first, or for that. At each moment it stood for the one, and from some moment on for the
-- other.
pub record DesktopRan (opened : Option FileMap) (before after : FolderTold) (end : SessionEnd)
    : Type 0 where
  pub entries : List EntryValue
  pub place : ℕ
  pub files : AllByRecursion (λ (entry : EntryValue). IsSlotsFile place entry.name) entries
  pub written : end ≡ Ended → after.contents ≡ option_map (put_all entries) opened
  pub stands : FinishesAs before.contents after.contents
      ⊎ FinishesAs (option_map (put_all entries) opened) after.contents
  pub between : Moments
  pub unchanged : EachMomentSince (FinishesAs before.contents) before.moments between
  pub changed : EachMomentSince (FinishesAs (option_map (put_all entries) opened)) between
      after.moments

-- memory ran out before anything was said, and the port and the folder are as they were
pub record KeptSilent (before after : PortTold) (desk desk_after : FolderTold) (status : Status)
    (report : CableReport) : Type 0 where
  pub memory : status ≡ NoMemory
  pub silent : IsSilent report
  pub port : after ≡ before
  pub desktop : desk_after ≡ desk

-- What was said and heard, what became of the desktop's folder, what the session answered, and the
-- status, which is that of this answer; why it stopped, where it did; what was asked, by the
-- replies; and where the port tells a handheld on which nothing is open, what is left of both sides.
pub record PortSession (cable : Cable) (slots : List SlotValue) (before after : PortTold)
    (desk desk_after : FolderTold) (status : Status) (report : CableReport) : Type 0 where
  pub link : LinkRan before after report.cause (log_entries report.log)
  pub changed : DesktopRan desk.contents desk desk_after report.end
  pub answer : Result (Vec DbReport) Stop
  pub over : IsOver answer report.end report.cause status
  pub why : IfErr answer (IsStopBy (option_map link_fault report.cause) (length slots))
  pub asked : AsksCable cable slots desk.contents (link_over before) link.last desk_after answer
  pub both : IfSome before.palm (λ (palm : Palm). IsAtRest palm.hand.device
      → LeftFor cable palm.hand.device slots after.palm desk desk_after
      (answered (link_over before) link.last answer) report)

-- what is known of a session over an opened port, with a desktop of these slots: it kept silent, or
-- it had the session
pub record HasTalked (cable : Cable) (slots : List SlotValue) (before after : PortTold)
    (desk desk_after : FolderTold) (status : Status) (report : CableReport) : Type 0 where
  pub shown : ByEnd report.end (KeptSilent before after desk desk_after status report)
      (PortSession cable slots before after desk desk_after status report)
  pub port : status ≡ PortFailed → Rose before.faults after.faults
  pub desktop : status ≡ DesktopFolder → Rose desk.faults desk_after.faults
  pub port_paths : after.paths ≡ before.paths
  pub desk_paths : desk_after.paths ≡ desk.paths
