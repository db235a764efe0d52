-- The life of a database over calls of `run` on one pair of folders, with edits of both sides between
-- them.
use Rattle.std.specs.Prelude.{◌≡◌, ◌⊎◌, ◌==◌, ◌||◌, ℕ, Bool, true, false, List, [], ◌∷◌, if◌then◌else◌}
use Rattle.std.specs.Option.{option_map}
use Rattle.pdb_values.specs.Contents.{ContentValue}
use Rattle.palm_device.specs.Devices.{Device}
use Rattle.conduit_rules.specs.declared.action.Action.{Action}
use Rattle.handheld_files.specs.Openings.{Stands}
use Rattle.desk_journal.specs.Overlays.{finished}
use Rattle.desk_store.specs.Desks.{IsDesk}
use Rattle.desk_store.specs.Shelves.{SlotValue, infos_of, marks_of, slot_at}
use Rattle.desktop_session.specs.Seats.{seat_for}
use Rattle.desktop_session.specs.declared.seat.UserWish.{UserWish}
use Rattle.run_words.specs.Actions.{action_for}
use Rattle.run_words.specs.Runs.{run_actions}
use Rattle.run_words.specs.UserNames.{wished_name}
use Rattle.session_parts.specs.Meets.{IsSeated}
use Rattle.session_plan.specs.Choosing.{action_or_sync}
use Rattle.session_plan.specs.Tasks.{Meeting, action_of_word, place_for}
use Rattle.session_plan.specs.Users.{begun_user}
use Rattle.front_laws.specs.Keeping.{ActionSpares, MarksChanges, ShowsChanges}
use Rattle.front_laws.specs.Lives.{EditLetsBe, IsInPlace, is_live_in, is_there}
use Rattle.front_laws.specs.Meetings.{IsActive, holding}
use Rattle.front_laws.specs.Repeats.{Ending}
use Rattle.run_promises.specs.Again.{AreTold}
use Rattle.run_promises.specs.RunCalls.{IsAnsweredRun, RunCall}
use Rattle.cmd_session.specs.Meetings.{Meets}
use Rattle.call_parts.specs.Told.{CallTold}
use Rattle.call_parts.specs.Undisturbed.{AreGood}

-- ---- both sides

-- a handheld, the slots of a desktop, and the name of the user: while the handheld has no number it
-- is asked for by this one
pub record Sides : Type 0 where
  pub device : Device
  pub slots : List SlotValue
  pub name : List ℕ

-- two folders tell what they hold, and stand for these sides, once a journal that was left is
-- finished
pub record StandForSides (told : CallTold) (sides : Sides) : Type 0 where
  pub tells : AreTold told
  pub handheld : Stands told.palm.contents sides.device.databases sides.device.user
  pub desktop : IsDesk (option_map finished told.desk.contents) sides.slots

-- what is asked of the user by which the handheld's slot is found: the name, where it has no number
abbrev pub own_wish : Sides → UserWish
own_wish sides = record {
  name = if sides.device.user.user == 0 then sides.name else [];
  add = false;
}

-- the slot of the handheld's user
abbrev pub own_slot : Sides → SlotValue
own_slot sides = slot_at sides.slots (place_for sides.device sides.slots (own_wish sides))

-- what both sides hold of the database of a name
abbrev pub held_of : Sides → List ℕ → Ending
held_of sides name = holding sides.device (own_slot sides) name

-- ---- a call

-- a call for a run, and both sides before and behind it
pub record LiveCall : Type 0 where
  pub call : RunCall
  pub before : Sides
  pub after : Sides

-- whatever became of it: its folders could be opened, and stood for the first, and then for the
-- second; a handheld that has a number may be asked for by any name
pub record RanBetween (one : LiveCall) : Type 0 where
  pub answered : IsAnsweredRun one.call
  pub asks : one.before.device.user.user ≡ 0 → wished_name one.call.run.user ≡ one.before.name
  pub name : one.after.name ≡ one.before.name
  pub good : AreGood one.call.before
  pub before : StandForSides one.call.before one.before
  pub after : StandForSides one.call.after one.after

-- what its words ask to do with a database
abbrev pub action_asked : RunCall → List ℕ → Action
action_asked call name =
    action_or_sync (action_of_word (action_for name (run_actions call.run)))

-- a call whose words let a content go on no side: where they go by one side, it is there if it is
-- live on the other one
abbrev pub CallLetsBe : ContentValue → List ℕ → LiveCall → Type 0
CallLetsBe c name one =
    ActionSpares c (action_asked one.call name) (held_of one.before name)

-- ---- between two calls

-- The handheld tells of an edit: what changed in its records is marked, or the handheld knows no
-- desktop that it met last any more, as an install leaves it.
abbrev pub IsToldEdit : List ℕ → Sides → Sides → Type 0
IsToldEdit name left found =
    ((found.device.user ≡ left.device.user)
    × MarksChanges (held_of left name).records (held_of found name).records)
    ⊎ (found.device.user ≡ begun_user left.device.user)

-- Records and rows of a database may be edited in any way that the handheld tells of. What the
-- desktop knows of its slots, the base rows and the archive of the database stay as they are; and
-- all else may be edited too.
pub record IsEdit (name : List ℕ) (left found : Sides) : Type 0 where
  pub user : found.name ≡ left.name
  pub told : IsToldEdit name left found
  pub infos : infos_of found.slots ≡ infos_of left.slots
  pub base : (held_of found name).base ≡ (held_of left name).base
  pub archive : (held_of found name).archive ≡ (held_of left name).archive

-- an edit of both sides that lets a content be
pub record EditsLetBe (c : ContentValue) (name : List ℕ) (left found : Sides) : Type 0 where
  pub edit : IsEdit name left found
  pub handheld : EditLetsBe c (held_of left name).records (held_of found name).records
  pub desktop : EditLetsBe c (held_of left name).rows (held_of found name).rows

-- ---- a life

-- Nothing has let a content of a database go so far, and each record that isn't marked is as both
-- sides agreed on it.
pub record BeginsLife (c : ContentValue) (name : List ℕ) (sides : Sides) : Type 0 where
  pub place : IsInPlace c (held_of sides name)
  pub shown : ShowsChanges sides.device.user sides.device.databases (own_slot sides) name

-- calls one behind another, with edits between them, and none of them lets the content go
abbrev pub AllLetBe : ContentValue → List ℕ → LiveCall → List LiveCall → Type 0
AllLetBe c name one [] = RanBetween one × CallLetsBe c name one
AllLetBe c name one (next ∷ later) =
    RanBetween one × CallLetsBe c name one × EditsLetBe c name one.after next.before
    × AllLetBe c name next later

-- the content was live on a side or archived before one of these calls
abbrev pub was_there : ContentValue → List ℕ → LiveCall → List LiveCall → Bool
was_there c name one [] = is_there c (held_of one.before name)
was_there c name one (next ∷ later) =
    is_there c (held_of one.before name) || was_there c name next later

abbrev pub last_live : LiveCall → List LiveCall → LiveCall
last_live one [] = one
last_live one (next ∷ later) = last_live next later

-- it is so behind the last one
abbrev pub is_there_still : ContentValue → List ℕ → LiveCall → List LiveCall → Bool
is_there_still c name one later = is_there c (held_of (last_live one later).after name)

-- behind a call whose session ended a life begins anew for what is live, where the session merged
-- the database, and was shown what had changed
pub record BeginsAnew (one : LiveCall) (meeting : Meeting) : Type 0 where
  pub each : (c : ContentValue) (name : List ℕ) → IsActive meeting name
      → ShowsChanges one.before.device.user one.before.device.databases (own_slot one.before) name
      → is_live_in c (held_of one.after name).records ≡ true → BeginsLife c name one.after

-- ---- two calls

-- a run over both folders as a call left them, whatever its words: the handheld has a slot, and where
-- it has no number the same name is asked for
pub record RunsBehind (call next : RunCall) (meeting : Meeting) : Type 0 where
  pub palm : next.before.palm.contents ≡ call.after.palm.contents
  pub desk : next.before.desk.contents ≡ call.after.desk.contents
  pub meets : Meets next.run next.before meeting
  pub seated : IsSeated (seat_for (marks_of meeting.slots) meeting.wishes.user meeting.device.user)
  pub asks : meeting.device.user.user ≡ 0 → wished_name next.run.user ≡ wished_name call.run.user
