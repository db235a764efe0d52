-- Both sides before a session, as their types keep them.
use Rattle.std.specs.Prelude.{◌≡◌, ◌<◌, ◌≤◌, ◌^◌, ◌==◌, None, false, length}
use Rattle.std.specs.List.{AllByRecursion, list_any}
use Rattle.palm_device.specs.Bounds.{IsBoundedDatabase}
use Rattle.palm_device.specs.Handles.{no_handles}
use Rattle.desktop_session.specs.Tellings.{IsTellable}
use Rattle.desk_store.specs.Shelves.{SlotValue}
use Rattle.session_plan.specs.Limits.{first_over}
use Rattle.session_plan.specs.Tasks.{Meeting, slot_of}
use Rattle.session_plan.specs.declared.wishes.Wishes.{Wishes}

-- rows and base rows within the bounds of databases, numbers of 32 bits, and a user's name of at
-- most 40 bytes, none of them zero
pub record IsSoundSlot (slot : SlotValue) : Type 0 where
  pub rows : AllByRecursion IsBoundedDatabase slot.shelves.rows
  pub bases : AllByRecursion IsBoundedDatabase slot.shelves.bases
  pub short : length slot.marks.name ≤ 40
  pub no_zero : list_any (λ byte. byte == 0) slot.marks.name ≡ false
  pub number : slot.marks.user < 2 ^ 32
  pub pc : slot.marks.pc < 2 ^ 32

-- a date of 32 bits, and a name of at most 40 bytes, none of them zero
pub record AreSoundWishes (wishes : Wishes) : Type 0 where
  pub date : wishes.date < 2 ^ 32
  pub short : length wishes.user.name ≤ 40
  pub no_zero : list_any (λ byte. byte == 0) wishes.user.name ≡ false

-- a handheld with nothing open, a desktop's picked slot and wishes, whose values keep the bounds of
-- their types
pub record IsSoundMeeting (meeting : Meeting) : Type 0 where
  pub device : IsTellable meeting.device
  pub closed : meeting.device.handles ≡ no_handles
  pub slot : IsSoundSlot (slot_of meeting)
  pub asked : AreSoundWishes meeting.wishes

-- one whose session passes no limit
pub record FitsLimits (meeting : Meeting) : Type 0 where
  pub sound : IsSoundMeeting meeting
  pub fits : first_over meeting ≡ None
