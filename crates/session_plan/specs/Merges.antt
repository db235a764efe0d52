-- What both sides hold after a session: the merge of each database that isn't skipped, and the
-- marks.
use Rattle.std.specs.Prelude.{ℕ, List, [], ◌∷◌, is_some, take, drop, slice_set, Option, Some, None}
use Rattle.pdb_values.specs.Databases.{DatabaseValue}
use Rattle.pdb_values.specs.NamedDatabases.{with_put}
use Rattle.pdb_values.specs.declared.head.DbHead.{DbHead}
use Rattle.pdb_values.specs.declared.record.Record.{Record}
use Rattle.palm_device.specs.Blocks.{empty_database}
use Rattle.palm_device.specs.Devices.{Device}
use Rattle.palm_device.specs.Handles.{no_handles}
use Rattle.palm_device.specs.Heads.{new_head}
use Rattle.palm_device.specs.Records.{with_records}
use Rattle.record_merge.specs.Merging.{merged_archive, merged_base, merged_records, merged_rows}
use Rattle.folder_files.specs.Partings.{parting_of}
use Rattle.folder_files.specs.declared.parted.Parted.{Parted}
use Rattle.desk_store.specs.Shelves.{ShelvesValue, SlotValue, with_place}
use Rattle.session_plan.specs.Blocks.{GivenBlocks, blocks_for, with_blocks}
use Rattle.session_plan.specs.Losses.{is_stranger}
use Rattle.session_plan.specs.Partings.{parting_by, with_parting}
use Rattle.session_plan.specs.Tasks.{Meeting, Task, records_of, slot_of, tasks}
use Rattle.session_plan.specs.Skips.{active, skip_of}
use Rattle.session_plan.specs.Choosing.{choice, seen_held, add_count}
use Rattle.session_plan.specs.Users.{done_of, done_user}
use Rattle.session_plan.specs.Heads.{made_head, rows_head}
use Rattle.session_plan.specs.Archives.{archive_records, entries_of}

-- ---- the handheld

-- a database that it lacked is new: CreateDB makes it, without blocks
abbrev pub new_database : DbHead → DatabaseValue
new_database head =
    empty_database (new_head head.name head.kind.0 head.creator.0 head.attributes head.version)

-- the database that is opened or made: the handheld's, or a new one by the head of the desktop's
-- rows
abbrev pub bare_before : Option DatabaseValue → Option DatabaseValue → Option DatabaseValue
bare_before (Some handheld) rows = Some handheld
bare_before None (Some rows) = Some (new_database (made_head rows.head))
bare_before None None = None

-- the database before its records: with the blocks that it gets
abbrev pub filled_before : GivenBlocks → Option DatabaseValue → Option DatabaseValue
filled_before blocks None = None
filled_before blocks (Some bare) = Some (with_blocks blocks bare)

abbrev pub handheld_before : Option DatabaseValue → Option DatabaseValue → Option DatabaseValue
handheld_before handheld rows = filled_before (blocks_for handheld rows) (bare_before handheld rows)

-- with its records merged
abbrev pub put_merged : Meeting → Task → List ℕ → Option DatabaseValue → List DatabaseValue
    → List DatabaseValue
put_merged meeting task given None databases = databases
put_merged meeting task given (Some before) databases =
    with_put (with_records
    (merged_records (choice meeting task)
    (seen_held meeting task) given before.records) before) databases

-- each database in its place, with the ids that its new records got
unfoldable pub merged_databases : Meeting → List Task → List ℕ → List DatabaseValue
    → List DatabaseValue
merged_databases meeting [] given databases = databases
merged_databases meeting (task ∷ later) given databases =
    merged_databases meeting later (drop (add_count meeting task) given)
    (put_merged meeting task (take (add_count meeting task) given)
    (handheld_before task.handheld task.rows) databases)

unfoldable pub merged_device : Meeting → List ℕ → Device
merged_device meeting given = record {
  databases = merged_databases meeting (active meeting) given meeting.device.databases;
  user = done_user meeting.device.user (done_of meeting);
  handles = no_handles;
}

-- ---- the desktop

-- the rows before: the desktop's, or new ones without blocks under the handheld's head
abbrev pub rows_before : ℕ → Option DatabaseValue → Option DatabaseValue → Option DatabaseValue
rows_before date (Some rows) handheld = Some rows
rows_before date None (Some handheld) = Some (empty_database (rows_head date handheld.head))
rows_before date None None = None

-- base rows and archive have the head of the rows, and no blocks
abbrev pub beside : DatabaseValue → List Record → DatabaseValue
beside rows records = with_records records (empty_database rows.head)

-- an archive without entries is left as it is
abbrev pub archive_of : DatabaseValue → List Record → Option DatabaseValue
archive_of rows [] = None
archive_of rows (entry ∷ entries) = Some (beside rows (entry ∷ entries))

-- what a database becomes on the desktop: rows, base rows, and an archive where it has entries
pub record DesktopMerge : Type 0 where
  pub rows : DatabaseValue
  pub base : DatabaseValue
  pub archive : Option DatabaseValue

abbrev pub merged_of : Meeting → Task → List ℕ → DatabaseValue → DesktopMerge
merged_of meeting task given rows = record {
  rows = with_records (merged_rows (choice meeting task) given) rows;
  base = beside rows (merged_base (choice meeting task) (seen_held meeting task) given);
  archive =
      archive_of rows
      (archive_records
      (merged_archive (choice meeting task) (entries_of (records_of task.archive))));
}

abbrev pub put_archive : Option DatabaseValue → List DatabaseValue → List DatabaseValue
put_archive None archives = archives
put_archive (Some archive) archives = with_put archive archives

abbrev pub shelved : DesktopMerge → ShelvesValue → ShelvesValue
shelved merged shelves = record {
  rows = with_put merged.rows shelves.rows;
  bases = with_put merged.base shelves.bases;
  archives = put_archive merged.archive shelves.archives;
}

abbrev pub shelve : Meeting → Task → List ℕ → Option DatabaseValue → ShelvesValue → ShelvesValue
shelve meeting task given None shelves = shelves
shelve meeting task given (Some rows) shelves = shelved (merged_of meeting task given rows) shelves

unfoldable pub merged_shelves : Meeting → List Task → List ℕ → ShelvesValue → ShelvesValue
merged_shelves meeting [] given shelves = shelves
merged_shelves meeting (task ∷ later) given shelves =
    merged_shelves meeting later (drop (add_count meeting task) given)
    (shelve meeting task (take (add_count meeting task) given)
    (rows_before meeting.wishes.date task.rows task.handheld) shelves)

-- what the slot keeps of those that took no part
abbrev pub parted_met : Meeting → List Task → List Parted
parted_met meeting [] = []
parted_met meeting (task ∷ later) =
    with_parting task.name
    (parting_by (is_stranger meeting) (is_some task.base)
    (parting_of task.name (slot_of meeting).parted) (skip_of task))
    (parted_met meeting later)

unfoldable pub merged_slot : Meeting → List ℕ → SlotValue
merged_slot meeting given = record {
  marks = done_of meeting;
  parted = parted_met meeting (tasks meeting);
  shelves = merged_shelves meeting (active meeting) given (slot_of meeting).shelves;
}

-- all slots: the picked one is merged, all others are as they were
unfoldable pub merged_slots : Meeting → List ℕ → List SlotValue
merged_slots meeting given =
    slice_set (with_place meeting.slots meeting.picked) meeting.picked (merged_slot meeting given)
