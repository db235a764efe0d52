-- What a session left of both sides, by what both held before it.
use Rattle.std.specs.Prelude.{◌≡◌, ◌⊎◌, ◌≤◌, ⊤, ℕ, List, [], ◌∷◌, map, IfSome, IsErr, IsSome, Option, None, Some, Result, Ok, Err}
use Rattle.hs_folders.specs.Moments.{EachMomentSince}
use Rattle.pdb_values.specs.declared.slot.Slot.TheVariants.{Full}
use Rattle.pdb_values.specs.declared.user.UserInfo.{UserInfo}
use Rattle.handheld_files.specs.Openings.{Stands}
use Rattle.desk_journal.specs.Overlays.{FinishesAs}
use Rattle.desk_store.specs.Desks.{IsDesk}
use Rattle.desktop_session.specs.Acts.{text}
use Rattle.desktop_session.specs.Requests.{reading_user}
use Rattle.desktop_session.specs.Says.{IsPrefix}
use Rattle.desktop_session.specs.declared.fault.SessionFault.{SessionFault}
use Rattle.session_plan.specs.Limits.{first_over}
use Rattle.session_plan.specs.Losses.{first_loss}
use Rattle.session_plan.specs.Merges.{merged_device, merged_slots}
use Rattle.sync_session.specs.Outcomes.{IsOtherUser, StandsForSlots, requests_before_commit, seat_of, slot_in}
use Rattle.session_plan.specs.Reports.{reports}
use Rattle.sync_session.specs.Sessions.{before_writes, requests, writes_before_commit}
use Rattle.session_plan.specs.Tasks.{Meeting}
use Rattle.front_laws.specs.Sound.{IsSoundMeeting}
use Rattle.call_parts.specs.Causes.{IsCutShort, fault_status}
use Rattle.call_parts.specs.LineRuns.{SaidAll, log_in}
use Rattle.call_parts.specs.Told.{FolderTold}
use Rattle.call_parts.specs.declared.report.Report.{Report}
use Rattle.call_parts.specs.declared.report.SessionEnd.TheVariants.{Ended, Stopped}
use Rattle.cmd_status.specs.declared.status.Status.{Status}
use Rattle.cmd_status.specs.declared.status.Status.TheVariants.{DesktopFolder, OtherUser}
use Rattle.cmd_status.specs.declared.status.Status.TheVariants.{TooManyUsers, Limit, NewHandheld}

-- It ended: each of the session's requests was issued and performed, both folders stand for the
-- merge under the ids that new records got, the desktop's without a journal, and what was done with
-- each database is told.
pub record EndedSession (meeting : Meeting) (palm_after desk_after : FolderTold)
    (report : Report) : Type 0 where
  pub issued : (log_in report).issued ≡ requests meeting
  pub performed : (log_in report).performed ≡ requests meeting
  pub handheld : Stands palm_after.contents (merged_device meeting (log_in report).given).databases
      (merged_device meeting (log_in report).given).user
  pub desktop : IsDesk desk_after.contents (merged_slots meeting (log_in report).given)
  pub databases : report.databases.items ≡ reports meeting

-- it stopped before the desktop's commit: its folder stands for what it stood for
pub record StoppedBefore (meeting : Meeting) (desk desk_after : FolderTold)
    (report : Report) : Type 0 where
  pub stands : FinishesAs desk.contents desk_after.contents
  pub writes : report.writes ≤ writes_before_commit meeting

-- it stopped behind it: the folder stands for the merge
pub record StoppedBehind (meeting : Meeting) (desk_after : FolderTold)
    (report : Report) : Type 0 where
  pub stands : StandsForSlots (merged_slots meeting (log_in report).given) desk_after.contents
  pub writes : writes_before_commit meeting ≤ report.writes

-- Both sides keep the bounds of their types. What was issued begins the session's requests; where a
-- limit would be passed, or the session would cost the desktop live rows, it begins those that
-- write nothing, and where the handheld's user has no slot it is at most the request for the user.
-- This is left of both sides. At each moment the desktop's folder stood for what it stood for at
-- first, or for the merge under some ids.
pub record SessionLeft (meeting : Meeting) (palm_after desk desk_after : FolderTold)
    (report : Report) : Type 0 where
  pub sound : IsSoundMeeting meeting
  pub issued : IsPrefix (log_in report).issued (requests meeting)
  pub over : IsSome (first_over meeting)
      → IsPrefix (log_in report).issued (map text (before_writes meeting))
  pub losing : IsSome (first_loss meeting)
      → IsPrefix (log_in report).issued (map text (before_writes meeting))
  pub unseated : IsErr (seat_of meeting) → IsPrefix (log_in report).issued (text reading_user ∷ [])
  pub ended : report.end ≡ Ended → EndedSession meeting palm_after desk_after report
  pub stopped : report.end ≡ Stopped
      → StoppedBefore meeting desk desk_after report ⊎ StoppedBehind meeting desk_after report
  pub given : List ℕ
  pub moments : EachMomentSince
      (λ told. FinishesAs desk.contents told
      ⊎ StandsForSlots (merged_slots meeting given) told) desk.moments desk_after.moments

-- ---- why it stopped

-- What a status shows of a session. For its user it stopped behind the request for it alone; for a
-- limit, or where none would be passed for lost rows, once all was read and nothing written;
-- and the desktop's folder failed at the commit, where all that precedes it was performed and
-- nothing behind it was issued.
abbrev pub StatusShows : Meeting → Report → Status → Type 0
StatusShows meeting report (OtherUser handheld desktop) =
    IsOtherUser meeting handheld desktop × SaidAll (text reading_user ∷ []) report
StatusShows meeting report TooManyUsers =
    (slot_in meeting ≡ Full) × SaidAll (text reading_user ∷ []) report
StatusShows meeting report (Limit name) =
    (first_over meeting ≡ Some name) × SaidAll (map text (before_writes meeting)) report
StatusShows meeting report (NewHandheld name) =
    (first_over meeting ≡ None) × (first_loss meeting ≡ Some name)
    × SaidAll (map text (before_writes meeting)) report
StatusShows meeting report DesktopFolder = SaidAll (requests_before_commit meeting) report
StatusShows meeting report other = ⊤

-- the status of a session that both sides refuse: the handheld's user has no slot, or else a limit
-- would be passed, or else the session would cost the desktop live rows
abbrev pub status_refused : Result UserInfo SessionFault → Option (List ℕ) → Option (List ℕ)
    → Option Status
status_refused (Err why) over loss = Some (fault_status None why)
status_refused (Ok user) (Some name) loss = Some (Limit name)
status_refused (Ok user) None (Some name) = Some (NewHandheld name)
status_refused (Ok user) None None = None

-- where both sides refuse a session, its status says so, unless it was cut short before
abbrev pub IsToldRefusal : Meeting → Status → Type 0
IsToldRefusal meeting status =
    IfSome (status_refused (seat_of meeting) (first_over meeting) (first_loss meeting))
    (λ refused. (status ≡ refused) ⊎ IsCutShort status)

-- what the status of a session between both sides shows of them, and which it is where they refuse
-- it
pub record ShowsMeeting (meeting : Meeting) (status : Status) (report : Report) : Type 0 where
  pub status_is : StatusShows meeting report status
  pub refused : IsToldRefusal meeting status
