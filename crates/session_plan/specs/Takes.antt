-- What the desktop takes of planned databases: the change of each, and its slots with all of them.
use Rattle.std.specs.Prelude.{ℕ, List, [], ◌∷◌, ◌++◌, map, slice_set, Option, Some, None}
use Rattle.std.specs.Global.{Vec}
use Rattle.pdb_values.specs.Databases.{DatabaseValue}
use Rattle.pdb_values.specs.NamedDatabases.{database_of}
use Rattle.pdb_values.specs.declared.head.DbHead.{DbHead}
use Rattle.pdb_values.specs.declared.record.Record.{Record}
use Rattle.pdb_values.specs.declared.user.Marks.{Marks}
use Rattle.pdb_values.specs.declared.user.UserInfo.{UserInfo}
use Rattle.palm_device.specs.Blocks.{empty_database}
use Rattle.palm_device.specs.Records.{with_records}
use Rattle.record_merge.specs.Merging.{one_copy_behind}
use Rattle.conduit_rules.specs.declared.planned.Plan.{Plan}
use Rattle.folder_files.specs.declared.parted.Parted.{Parted}
use Rattle.desk_journal.specs.Entries.{EntryValue}
use Rattle.desk_store.specs.Changes.{slot_entries, with_changes}
use Rattle.desk_store.specs.Shelves.{ShelvesValue, SlotValue, infos_of, slot_at, with_place}
use Rattle.desk_store.specs.declared.change.DbChange.{DbChange}
use Rattle.session_plan.specs.Archives.{archive_records, entries_of}
use Rattle.session_plan.specs.Heads.{rows_head}
use Rattle.session_plan.specs.Losses.{is_stranger_to}
use Rattle.session_plan.specs.Merges.{archive_of, beside}
use Rattle.session_plan.specs.Partings.{parted_planned}
use Rattle.session_plan.specs.Rows.{planned_base, planned_rows}
use Rattle.session_plan.specs.Tasks.{records_of}
use Rattle.session_plan.specs.declared.planned.Planned.{Planned}
use Rattle.session_parts.specs.declared.skip.Skip.{Skip}

-- ---- one database

-- the rows that a merge changes: the desktop's, or new ones without blocks under the handheld's
-- head
abbrev pub rows_begun : ℕ → Option DatabaseValue → Option DbHead → Option DatabaseValue
rows_begun date (Some rows) handheld = Some rows
rows_begun date None (Some head) = Some (empty_database (rows_head date head))
rows_begun date None None = None

-- the archive once a plan's entries come to it
abbrev pub planned_archive : Plan → List Record → List Record
planned_archive plan old =
    archive_records (one_copy_behind [] (entries_of old ++ plan.archive.items))

-- the change of a database, whose new records got these ids
abbrev pub planned_change : Plan → List ℕ → List Record → DatabaseValue → DbChange
planned_change plan given old rows = record {
  rows = with_records (planned_rows plan given) rows;
  base = beside rows (planned_base plan given);
  archive = archive_of rows (planned_archive plan old);
}

-- none, where there are no rows
abbrev pub change_from : Plan → List ℕ → List Record → Option DatabaseValue → List DbChange
change_from plan given old None = []
change_from plan given old (Some rows) = planned_change plan given old rows ∷ []

-- none, where it is skipped
abbrev pub change_unless : Option Skip → List DbChange → List DbChange
change_unless (Some skip) changes = []
change_unless None changes = changes

-- the change of a planned database, where it has one
unfoldable pub change_of : ℕ → ShelvesValue → Planned → List ℕ → List DbChange
change_of date shelves one given =
    change_unless one.job.skip
    (change_from one.plan given (records_of (database_of one.job.name shelves.archives))
    (rows_begun date (database_of one.job.name shelves.rows) one.job.handheld))

-- ---- all of them

-- the ids of each, as lists
abbrev pub each_of : List (Vec ℕ) → List (List ℕ)
each_of ids = map (λ (one : Vec ℕ). one.items) ids

-- one after another, each with the ids of its own new records
unfoldable pub changes_of : ℕ → ShelvesValue → List Planned → List (List ℕ) → List DbChange
changes_of date shelves [] ids = []
changes_of date shelves (one ∷ later) [] = []
changes_of date shelves (one ∷ later) (given ∷ more) =
    change_of date shelves one given ++ changes_of date shelves later more

-- the slots of a desktop whose slot at this place gets these marks, these words of databases that
-- took no part, and these databases; behind the last one it is new
abbrev pub slots_with : Marks → List Parted → List DbChange → ℕ → List SlotValue → List SlotValue
slots_with marks parted changes place slots =
    slice_set (with_place slots place) place
    (record {
      marks = marks;
      parted = parted;
      shelves = with_changes changes (slot_at slots place).shelves;
    })

-- what a slot keeps of the databases that took no part in a session with this user
abbrev pub parted_after : UserInfo → SlotValue → List Planned → List Parted
parted_after user slot planned =
    parted_planned (is_stranger_to user slot.marks) slot.shelves slot.parted planned

-- the slots once the one at this place took what was planned with this user, and the marks that
-- end the session, at their date
unfoldable pub taken_slots : Marks → UserInfo → List Planned → List (List ℕ) → ℕ
    → List SlotValue → List SlotValue
taken_slots done user planned ids place slots =
    slots_with done (parted_after user (slot_at slots place) planned)
    (changes_of done.last (slot_at slots place).shelves planned ids) place slots

-- the files that this writes
unfoldable pub taken_entries : Marks → UserInfo → List Planned → List (List ℕ) → ℕ
    → List SlotValue → List EntryValue
taken_entries done user planned ids place slots =
    slot_entries place (changes_of done.last (slot_at slots place).shelves planned ids)
    (infos_of (taken_slots done user planned ids place slots))
