-- The databases of a session: what both sides hold under a name before it, and what is asked.
use Rattle.std.specs.Prelude.{ℕ, List, [], ◌∷◌, insert, length, map, if◌then◌else◌, Option, Some, None}
use Rattle.std.specs.List.{list_any, position_or_len}
use Rattle.std.specs.Str.{bytes_eq}
use Rattle.pdb_values.specs.Databases.{DatabaseValue}
use Rattle.pdb_values.specs.NamedDatabases.{comes_before, database_of}
use Rattle.pdb_values.specs.declared.record.Record.{Record}
use Rattle.palm_device.specs.Devices.{Device}
use Rattle.conduit_rules.specs.declared.action.Action.{Action}
use Rattle.conduit_rules.specs.declared.action.Action.TheVariants as action
use Rattle.desktop_session.specs.Seats.{seat_for}
use Rattle.desktop_session.specs.declared.seat.UserWish.{UserWish}
use Rattle.desk_store.specs.Desks.{place_of}
use Rattle.desk_store.specs.Shelves.{SlotValue, marks_of, slot_at}
use Rattle.run_words.specs.Actions.{action_for}
use Rattle.run_words.specs.declared.action.ActionWord.{ActionWord}
use Rattle.run_words.specs.declared.action.ActionWord.TheVariants.{Sync, Handheld, Desktop, Both, Nothing}
use Rattle.session_plan.specs.declared.wishes.Wishes.{Wishes}

-- ---- both sides

-- both sides before a session, and what is asked of it: the handheld, the slots of the desktop, and
-- the place of the picked one
pub record Meeting : Type 0 where
  pub device : Device
  pub slots : List SlotValue
  pub picked : ℕ
  pub wishes : Wishes

-- the place of the slot that a handheld's user has
abbrev pub place_for : Device → List SlotValue → UserWish → ℕ
place_for device slots wish =
    place_of (length slots) (seat_for (marks_of slots) wish device.user)

-- a handheld meets a desktop: the slot of its user is picked
abbrev pub meeting_of : Device → List SlotValue → Wishes → Meeting
meeting_of device slots wishes = record {
  device = device;
  slots = slots;
  picked = place_for device slots wishes.user;
  wishes = wishes;
}

-- the picked slot
abbrev pub slot_of : Meeting → SlotValue
slot_of meeting = slot_at meeting.slots meeting.picked

-- ---- names

-- a name has its place in byte order, once
abbrev pub with_name : List ℕ → List (List ℕ) → List (List ℕ)
with_name name names =
    if list_any (λ other. bytes_eq other name) names then names
    else insert names (position_or_len (λ other. comes_before name other) names) name

-- one after another
abbrev pub with_names : List (List ℕ) → List (List ℕ) → List (List ℕ)
with_names [] names = names
with_names (name ∷ later) names = with_names later (with_name name names)

abbrev pub names_of : List DatabaseValue → List (List ℕ)
names_of databases = map (λ (database : DatabaseValue). database.head.name) databases

-- the names of a session: those of the handheld's databases and of the desktop's rows, in byte
-- order
abbrev pub names : Meeting → List (List ℕ)
names meeting =
    with_names (names_of (slot_of meeting).shelves.rows)
    (with_names (names_of meeting.device.databases) [])

-- ---- databases

-- one database: as the handheld has it, the desktop's rows, base rows and archive, and what is done
-- with it, if anything
pub record Task : Type 0 where
  pub name : List ℕ
  pub handheld : Option DatabaseValue
  pub rows : Option DatabaseValue
  pub base : Option DatabaseValue
  pub archive : Option DatabaseValue
  pub action : Option Action

-- the action of a word
abbrev pub action_of_word : ActionWord → Option Action
action_of_word Sync = Some action.Sync
action_of_word Handheld = Some action.Handheld
action_of_word Desktop = Some action.Desktop
action_of_word Both = Some action.Both
action_of_word Nothing = None

-- the database of a name
abbrev pub task_of : Meeting → List ℕ → Task
task_of meeting name = record {
  name = name;
  handheld = database_of name meeting.device.databases;
  rows = database_of name (slot_of meeting).shelves.rows;
  base = database_of name (slot_of meeting).shelves.bases;
  archive = database_of name (slot_of meeting).shelves.archives;
  action = action_of_word (action_for name meeting.wishes.actions.items);
}

-- its databases
unfoldable pub tasks : Meeting → List Task
tasks meeting = map (task_of meeting) (names meeting)

-- the records of a database that may not be there
abbrev pub records_of : Option DatabaseValue → List Record
records_of None = []
records_of (Some database) = database.records
