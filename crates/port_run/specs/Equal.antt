-- What a session over a cable leaves that ended, where the port told its handheld: the same on both
-- sides.
use Rattle.std.specs.Prelude.{◌≡◌, ℕ, List, Option, Some, IfSome}
use Rattle.palm_device.specs.Devices.{Device}
use Rattle.desk_store.specs.Desks.{IsDesk}
use Rattle.desk_store.specs.Shelves.{slot_at}
use Rattle.session_plan.specs.Merges.{merged_slots}
use Rattle.session_plan.specs.Tasks.{Meeting}
use Rattle.session_parts.specs.Rests.{IsAtRest}
use Rattle.front_laws.specs.Meetings.{IsActive, holding}
use Rattle.front_laws.specs.Equal.{HasEqualSides, IsShownWhole}
use Rattle.port_laws.specs.Palms.{Palm}
use Rattle.run_words.specs.Cables.{Cable}
use Rattle.cmd_status.specs.declared.status.Status.{Status}
use Rattle.call_parts.specs.Told.{FolderTold}
use Rattle.port_run.specs.Ends.{Meets}
use Rattle.port_run.specs.Syncs.{SessionRan}
use Rattle.port_run.specs.Told.{SyncTold}
use Rattle.port_run.specs.declared.synced.CableReport.{CableReport}

-- Of each database that wasn't skipped and was shown whole, the handheld that the port tells then
-- and the slot of its user hold the same records, live and unmarked.
pub record EndsEqual (cable : Cable) (device : Device) (after : Option Palm)
    (desk desk_after : FolderTold) : Type 0 where
  pub meeting : Meeting
  pub meets : Meets cable device desk.contents meeting
  pub palm : Palm
  pub palm_is : after ≡ Some palm
  pub given : List ℕ
  pub desktop : IsDesk desk_after.contents (merged_slots meeting given)
  pub each : (name : List ℕ) → IsActive meeting name → IsShownWhole meeting name
      → HasEqualSides (holding palm.hand.device
      (slot_at (merged_slots meeting given) meeting.picked) name)

-- so a session leaves both sides where the port told a handheld on which nothing was open
abbrev pub LeavesEqual : {cable : Cable} {before after : SyncTold} {status : Status}
    {report : CableReport} → SessionRan cable before after status report → Type 0
LeavesEqual {cable} {before} {after} ran =
    IfSome before.port.palm (λ (palm : Palm). IsAtRest palm.hand.device
    → EndsEqual cable palm.hand.device after.port.palm before.desk after.desk)
