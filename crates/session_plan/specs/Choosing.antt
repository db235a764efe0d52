-- What a session sees of a database, and what it chooses.
use Rattle.std.specs.Prelude.{ℕ, Bool, true, false, not, ◌&&◌, List, [], if◌then◌else◌, is_some, length, Option, Some, None}
use Rattle.pdb_values.specs.Databases.{DatabaseValue}
use Rattle.pdb_values.specs.declared.record.Record.{Record}
use Rattle.conduit_rules.specs.States.{SideState}
use Rattle.conduit_rules.specs.Views.{slow_view, fast_view}
use Rattle.conduit_rules.specs.Choices.{Choice, Sides, sides_of, choice_for}
use Rattle.conduit_rules.specs.declared.action.Action.{Action}
use Rattle.conduit_rules.specs.declared.action.Action.TheVariants.{Sync, Handheld, Desktop, Both}
use Rattle.conduit_rules.specs.declared.view.Seen.{Seen}
use Rattle.mirrors.specs.Agreements.{agreed}
use Rattle.session_plan.specs.Partings.{agrees_with}
use Rattle.session_plan.specs.Tasks.{Meeting, Task, records_of, slot_of}

-- both sides agree on the database of a name
unfoldable pub agrees : Meeting → List ℕ → Bool
agrees meeting name =
    agrees_with (agreed meeting.device.user (slot_of meeting).marks) (slot_of meeting).parted name

-- the action of a database that is not skipped
abbrev pub action_or_sync : Option Action → Action
action_or_sync None = Sync
action_or_sync (Some action) = action

-- it goes by both sides and their base
abbrev pub is_sync : Action → Bool
is_sync Sync = true
is_sync Handheld = false
is_sync Desktop = false
is_sync Both = false

-- a database is read fast where both sides agree, nothing slower is asked, its action looks at
-- both and at the base, and all of it is there
abbrev pub is_fast_by : Bool → Bool → Action → Bool → Bool → Bool → Bool
is_fast_by agree slow action handheld rows base =
    agree && (not slow && (is_sync action && (handheld && (rows && base))))

unfoldable pub is_fast : Meeting → Task → Bool
is_fast meeting task =
    is_fast_by (agrees meeting task.name) meeting.wishes.slow (action_or_sync task.action)
    (is_some task.handheld) (is_some task.rows) (is_some task.base)

-- the base rows: none where the rows or the base rows are missing
abbrev pub base_rows_by : Option DatabaseValue → Option DatabaseValue → List Record
base_rows_by rows base = if is_some rows then records_of base else []

abbrev pub base_rows : Task → List Record
base_rows task = base_rows_by task.rows task.base

-- what is seen of the handheld's records
unfoldable pub view : Meeting → Task → List Seen
view meeting task =
    if is_fast meeting task then fast_view (base_rows task) (records_of task.handheld)
    else slow_view (records_of task.handheld)

-- the database as its base, its view and its rows show it; gone rows count where the sides don't
-- agree
abbrev pub sides_by : List Seen → Option DatabaseValue → Option DatabaseValue → Bool → Sides
sides_by view rows base agree = sides_of view (records_of rows) (base_rows_by rows base) (not agree)

unfoldable pub sides : Meeting → Task → Sides
sides meeting task =
    sides_by (view meeting task) task.rows task.base (agrees meeting task.name)

-- what is chosen
unfoldable pub choice : Meeting → Task → Choice
choice meeting task = choice_for (action_or_sync task.action) (sides meeting task)

-- what the handheld holds, as it was seen
abbrev pub seen_held : Meeting → Task → ℕ → SideState
seen_held meeting task = (sides meeting task).handheld

-- how many new records a database gets, and so ids
abbrev pub add_count : Meeting → Task → ℕ
add_count meeting task = length (choice meeting task).adds
