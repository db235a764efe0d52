-- Both sides before a run, as far as their folders tell them.
use Rattle.std.specs.Prelude.{◌≡◌, IfSome}
use Rattle.std.specs.Option.{option_map}
use Rattle.palm_device.specs.Handles.{no_handles}
use Rattle.handheld_files.specs.Openings.{HoldsAll}
use Rattle.desk_journal.specs.Overlays.{finished}
use Rattle.desk_store.specs.Desks.{IsDesk}
use Rattle.run_words.specs.Runs.{Run}
use Rattle.session_plan.specs.Tasks.{Meeting, place_for}
use Rattle.call_parts.specs.Told.{CallTold}
use Rattle.cmd_session.specs.Wishes.{AsksFor}

-- The meeting of what the folders of a run hold, by what its words ask: the handheld, without an
-- open database, and the desktop's slots once a journal that was left is finished, with the slot of
-- the handheld's user picked.
pub record Meets (run : Run) (before : CallTold) (meeting : Meeting) : Type 0 where
  pub handheld : IfSome before.palm.contents
      (λ held. HoldsAll held meeting.device.databases meeting.device.user)
  pub closed : meeting.device.handles ≡ no_handles
  pub desktop : IsDesk (option_map finished before.desk.contents) meeting.slots
  pub picked : meeting.picked ≡ place_for meeting.device meeting.slots meeting.wishes.user
  pub asked : AsksFor run meeting.wishes
