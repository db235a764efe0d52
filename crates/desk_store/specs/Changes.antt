-- Changes of a desktop: the files that each writes, and the databases that it leaves.
use Rattle.std.specs.Prelude.{◌≡◌, ◌≢◌, ◌<◌, ◌≤◌, ℕ, false, bytes_eq, List, [], ◌∷◌, ◌++◌, length, map, slice_index, slice_set, if◌then◌else◌, Option, None}
use Rattle.std.specs.Prelude.{Some, IfSome}
use Rattle.std.specs.List.{AllByRecursion, flat_map}
use Rattle.std.specs.Option.{option_map, option_or}
use Rattle.hs_folders.specs.FileMaps.{FileMap}
use Rattle.pdb_values.specs.Databases.{DatabaseValue}
use Rattle.pdb_values.specs.declared.user.Marks.{Marks}
use Rattle.pdb_values.specs.Heads.{holds_resources}
use Rattle.pdb_files.specs.Files.{IsFileText, canonical}
use Rattle.folder_files.specs.InfoFiles.{desktop_text}
use Rattle.folder_files.specs.FileNames.{desktop_info_file}
use Rattle.desk_journal.specs.Entries.{EntryValue}
use Rattle.desk_journal.specs.Overlays.{put_all}
use Rattle.desk_journal.specs.Steps.{changed_in, commit_steps}
use Rattle.folder_files.specs.Partings.{PartedRise}
use Rattle.folder_files.specs.Slots.{SlotInfoValue, users_of}
use Rattle.desk_store.specs.DeskFiles.{slot_file}
use Rattle.desk_store.specs.declared.role.Role.{Role}
use Rattle.desk_store.specs.declared.role.Role.TheVariants.{Rows, Base, Archive}
use Rattle.desk_store.specs.Shelves.{ShelvesValue, SlotValue, infos_of, marks_of, number_of, shelf_of, slot_at, with_database, with_place}
use Rattle.desk_store.specs.declared.change.DbChange.{DbChange}
use Rattle.desk_store.specs.declared.change.DeskChange.{DeskChange}
use Rattle.pdb_values.specs.NamedDatabases.{NamesRise, database_of}

-- a database holds records under this name
pub record IsOf (name : List ℕ) (database : DatabaseValue) : Type 0 where
  pub records : holds_resources database.head.attributes ≡ false
  pub named : database.head.name ≡ name

-- rows, base rows and archive hold records under one name, and an archive that is given has an
-- entry
pub record IsDbChange (change : DbChange) : Type 0 where
  pub rows : holds_resources change.rows.head.attributes ≡ false
  pub base : IsOf change.rows.head.name change.base
  pub archive : IfSome change.archive
      (λ archive. IsOf change.rows.head.name archive × (0 < length archive.records))

-- at most 200 databases change, whose names rise in byte order; the databases that took no part are
-- such as a slot can keep: at most 400, whose stems rise in byte order
pub record IsDeskChange (change : DeskChange) : Type 0 where
  pub few : length change.databases.items ≤ 200
  pub rise : NamesRise (map (λ database. database.rows) change.databases.items)
  pub each : AllByRecursion IsDbChange change.databases.items
  pub parted : PartedRise change.parted.items

-- no other slot than that at this place has this user
abbrev pub IsFree : List SlotValue → ℕ → ℕ → Type 0
IsFree slots place user =
    (other : ℕ) → other < length slots → other ≢ place
    → slice_index (users_of (marks_of slots)) other ≢ user

-- the slot at this place may get these marks: they bear the desktop's number and a user that no
-- other slot has, 0 only in slot 0
pub record MayBear (slots : List SlotValue) (place : ℕ) (marks : Marks) : Type 0 where
  pub number : marks.pc ≡ number_of slots
  pub own : IsFree slots place marks.user
  pub first : marks.user ≡ 0 → place ≡ 0

-- ---- files

-- the file of a database in a slot, in its canonical bytes
abbrev pub database_entry : ℕ → Role → DatabaseValue → EntryValue
database_entry slot role database = record {
  name = slot_file slot role database.head.name;
  bytes = canonical database;
}

-- the file of an archive that is given
abbrev pub archive_entries : ℕ → Option DatabaseValue → List EntryValue
archive_entries slot None = []
archive_entries slot (Some archive) = database_entry slot Archive archive ∷ []

-- the files of a database that changes: rows, base rows and archive
abbrev pub db_entries : ℕ → DbChange → List EntryValue
db_entries slot change =
    database_entry slot Rows change.rows ∷ database_entry slot Base change.base
    ∷ archive_entries slot change.archive

-- the information file
abbrev pub slots_entry : List SlotInfoValue → EntryValue
slots_entry infos = record { name = desktop_info_file; bytes = desktop_text infos }

-- the files of a change of a slot: those of each database in order, and then the information file
abbrev pub slot_entries : ℕ → List DbChange → List SlotInfoValue → List EntryValue
slot_entries slot changes infos = flat_map (db_entries slot) changes ++ slots_entry infos ∷ []

-- ---- databases

-- what a change of a database makes of a role
abbrev pub changed_to : Role → DbChange → Option DatabaseValue
changed_to Rows change = Some change.rows
changed_to Base change = Some change.base
changed_to Archive change = change.archive

-- what a change makes of the database of a role and a name, where it has one
abbrev pub changed : Role → List ℕ → List DbChange → Option DatabaseValue
changed role name [] = None
changed role name (change ∷ changes) =
    if bytes_eq change.rows.head.name name then changed_to role change
    else changed role name changes

-- the databases of these changes are as they say, and all others as before
abbrev pub AreChanged : List DbChange → ShelvesValue → ShelvesValue → Type 0
AreChanged changes old new =
    (role : Role) (name : List ℕ) → database_of name (shelf_of new role)
    ≡ option_or (changed role name changes) (database_of name (shelf_of old role))

-- an archive that is given is put among the others
abbrev pub with_archive : Option DatabaseValue → ShelvesValue → ShelvesValue
with_archive None shelves = shelves
with_archive (Some archive) shelves = with_database Archive archive shelves

-- with a database that changed
abbrev pub with_change : DbChange → ShelvesValue → ShelvesValue
with_change change shelves =
    with_archive change.archive
    (with_database Base change.base (with_database Rows change.rows shelves))

-- with all of them, the last one first
abbrev pub with_changes : List DbChange → ShelvesValue → ShelvesValue
with_changes [] shelves = shelves
with_changes (change ∷ changes) shelves = with_change change (with_changes changes shelves)

-- ---- slots

-- a slot that changed
abbrev pub changed_slot : DeskChange → SlotValue → SlotValue
changed_slot change slot = record {
  marks = change.marks;
  parted = change.parted.items;
  shelves = with_changes change.databases.items slot.shelves;
}

-- the slots of a desktop whose slot at this place changed, all others as they were; behind the last
-- one it is new
abbrev pub with_commit : DeskChange → ℕ → List SlotValue → List SlotValue
with_commit change place slots =
    slice_set (with_place slots place) place (changed_slot change (slot_at slots place))

-- the files that this writes
abbrev pub change_entries : DeskChange → ℕ → List SlotValue → List EntryValue
change_entries change place slots =
    slot_entries place change.databases.items (infos_of (with_commit change place slots))

-- the files of a folder with those of a change of the slot at this place
abbrev pub files_with : DeskChange → ℕ → List SlotValue → Option FileMap → Option FileMap
files_with change place slots files =
    option_map (put_all (change_entries change place slots)) files

-- the steps in which a folder gets the files that this changes
abbrev pub steps_of : DeskChange → ℕ → List SlotValue → FileMap → List (Option FileMap)
steps_of change place slots held =
    commit_steps (changed_in held (change_entries change place slots)) (Some held)

-- ---- what was written

-- the canonical bytes of each database that changes are a text of it
pub record IsDbWritten (change : DbChange) : Type 0 where
  pub rows : IsFileText change.rows (canonical change.rows)
  pub base : IsFileText change.base (canonical change.base)
  pub archive : IfSome change.archive (λ archive. IsFileText archive (canonical archive))
