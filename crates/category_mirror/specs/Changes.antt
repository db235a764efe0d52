-- What the desktop's picked slot becomes once categories were brought together.
use Rattle.std.specs.Prelude.{◌≡◌, ◌≤◌, ℕ, Bool, false, not, ◌==◌, ◌||◌, ◌&&◌, List, [], ◌∷◌, ◌++◌, length, map, Option, None, Some, if◌then◌else◌, Result, Ok}
use Rattle.std.specs.List.{AllByRecursion}
use Rattle.hs_folders.specs.FileMaps.{FileMap}
use Rattle.hs_folders.specs.Moments.{Moments}
use Rattle.pdb_values.specs.Databases.{DatabaseValue}
use Rattle.pdb_values.specs.Heads.{holds_resources}
use Rattle.pdb_values.specs.NamedDatabases.{NamesRise, database_of}
use Rattle.pdb_values.specs.declared.record.Record.{Record}
use Rattle.palm_device.specs.Records.{with_records}
use Rattle.desk_journal.specs.Entries.{EntryValue}
use Rattle.desk_store.specs.Changes.{IsDbChange, MayBear, slot_entries}
use Rattle.folder_files.specs.Partings.{PartedRise}
use Rattle.folder_files.specs.declared.parted.Parted.{Parted}
use Rattle.desk_store.specs.Shelves.{ShelvesValue, SlotValue, infos_of}
use Rattle.desk_store.specs.Views.{DeskValue, marks_in, parted_in}
use Rattle.desk_store.specs.declared.change.DbChange.{DbChange}
use Rattle.desk_store.specs.declared.fault.CommitFault.{CommitFault}
use Rattle.session_plan.specs.Commits.{Commits}
use Rattle.session_plan.specs.Takes.{slots_with}
use Rattle.category_mirror.specs.declared.job.FilingJob.{FilingJob}
use Rattle.category_mirror.specs.Blocks.{MergeValue}
use Rattle.category_mirror.specs.Refiled.{is_refiled, refiled_base, refiled_rows}

-- a record, live and clean
abbrev pub cleared_record : Record → Record
cleared_record item = record item { deleted = false; dirty = false; busy = false }

-- a database with its flags clear
unfoldable pub cleared_database : DatabaseValue → DatabaseValue
cleared_database database = with_records (map cleared_record database.records) database

-- an archive of records goes along with its flags clear; one without entries stays
abbrev pub cleared_archive : Option DatabaseValue → Option DatabaseValue
cleared_archive None = None
cleared_archive (Some archive) =
    if holds_resources archive.head.attributes || (length archive.records == 0) then None
    else Some (cleared_database archive)

-- rows and base rows hold records, and the rows change
abbrev pub is_changed : MergeValue → DatabaseValue → DatabaseValue → Bool
is_changed merge rows base =
    not (holds_resources rows.head.attributes)
    && (not (holds_resources base.head.attributes) && is_refiled merge rows)

-- the change of a database: its rows, its base rows along with them, its archive
abbrev pub change_for : Option MergeValue → Option DatabaseValue → Option DatabaseValue
    → Option DatabaseValue → List DbChange
change_for None rows base archive = []
change_for (Some merge) None base archive = []
change_for (Some merge) (Some rows) None archive = []
change_for (Some merge) (Some rows) (Some base) archive =
    if is_changed merge rows base
    then record {
      rows = refiled_rows merge rows;
      base = refiled_base merge base;
      archive = cleared_archive archive;
    } ∷ []
    else []

unfoldable pub change_filed : ShelvesValue → List ℕ → Option MergeValue → List DbChange
change_filed shelves name merge =
    change_for merge (database_of name shelves.rows) (database_of name shelves.bases)
    (database_of name shelves.archives)

-- those of several databases, each by its merge
unfoldable pub changes_filed : ShelvesValue → List FilingJob → List (Option MergeValue)
    → List DbChange
changes_filed shelves [] merges = []
changes_filed shelves (job ∷ jobs) [] = []
changes_filed shelves (job ∷ jobs) (merge ∷ merges) =
    change_filed shelves job.name merge ++ changes_filed shelves jobs merges

-- the slots of a desktop whose picked slot has these changes, its marks as they were, and the same
-- databases that took no part in its last session
unfoldable pub slots_filed : {F : Type 0} → List DbChange → DeskValue F → List SlotValue
slots_filed changes desk =
    slots_with (marks_in desk) (parted_in desk) changes desk.picked desk.slots

-- the files that this writes
unfoldable pub entries_filed : {F : Type 0} → List DbChange → DeskValue F → List EntryValue
entries_filed changes desk = slot_entries desk.picked changes (infos_of (slots_filed changes desk))

-- one commit of all changes; none where nothing changes
abbrev pub CommitsFiled : {F : Type 0} → (F → Option FileMap) → (F → Moments)
    → (F → Option (List (List ℕ))) → (F → ℕ) → List DbChange → DeskValue F
    → Result (DeskValue F) (CommitFault × F) → Type 0
CommitsFiled contents moments paths faults [] desk answer = answer ≡ Ok desk
CommitsFiled contents moments paths faults (change ∷ changes) desk answer =
    Commits contents moments paths faults (slots_filed (change ∷ changes) desk)
    (entries_filed (change ∷ changes) desk) desk answer

-- there are at most as many as a desktop can have databases, and its picked slot may keep its marks
pub record MayCommit {F : Type 0} (changes : List DbChange) (desk : DeskValue F) : Type 0 where
  pub few : length changes ≤ 200
  pub marks : MayBear desk.slots desk.picked (marks_in desk)

-- the changes are such as a desktop takes
pub record AreCommittable {F : Type 0} (changes : List DbChange) (desk : DeskValue F) : Type 0 where
  pub may : MayCommit changes desk
  pub rise : NamesRise (map (λ (change : DbChange). change.rows) changes)
  pub each : AllByRecursion IsDbChange changes

-- the picked slot keeps which databases took no part in its last session
pub record KeepsParted {F : Type 0} (parted : List Parted) (desk : DeskValue F) : Type 0 where
  pub same : parted ≡ parted_in desk
  pub rise : PartedRise parted
