-- Both sides of a session that brings categories together: what it says, and what it makes of them.
use Rattle.std.specs.Prelude.{◌≡◌, ◌⊎◌, ℕ, Bool, true, false, not, ◌&&◌, ◌||◌, ◌==◌, List, [], ◌∷◌, ◌++◌, filter, length, map, max, slice_set, take}
use Rattle.std.specs.Prelude.{Option, None, Some, option_and_then, if◌then◌else◌}
use Rattle.std.specs.List.{flat_map, list_any}
use Rattle.std.specs.Str.{bytes_eq}
use Rattle.pdb_values.specs.Databases.{DatabaseValue}
use Rattle.pdb_values.specs.Heads.{holds_resources}
use Rattle.pdb_values.specs.NamedDatabases.{database_of}
use Rattle.pdb_values.specs.declared.head.DbHead.{DbHead}
use Rattle.palm_device.specs.Devices.{Device}
use Rattle.dlp_commands.specs.Changes.{changes}
use Rattle.dlp_commands.specs.DatabaseFunctions.{listed}
use Rattle.desk_store.specs.Shelves.{ShelvesValue, SlotValue, slot_at}
use Rattle.desk_store.specs.declared.change.DbChange.{DbChange}
use Rattle.desktop_session.specs.Acts.{Act, text}
use Rattle.desktop_session.specs.Lists.{listings}
use Rattle.desktop_session.specs.Requests.{ending, opening, reading_app}
use Rattle.session_parts.specs.Meets.{greeting}
use Rattle.session_parts.specs.Spans.{within}
use Rattle.session_parts.specs.declared.skip.Skip.{Skip}
use Rattle.session_plan.specs.Jobs.{names_with}
use Rattle.desktop_session.specs.Seats.{no_wish}
use Rattle.session_plan.specs.Tasks.{place_for}
use Rattle.category_mirror.specs.declared.job.FilingJob.{FilingJob}
use Rattle.session_parts.specs.declared.report.DbReport.{DbReport}
use Rattle.category_mirror.specs.Blocks.{MergeValue, blocks_merge, written_block}
use Rattle.category_mirror.specs.Changes.{change_filed, cleared_database}
use Rattle.category_mirror.specs.Courses.{report_filed}
use Rattle.category_mirror.specs.FilingActs.{marked_user, marks_for, rows_app, unless_skipped, writes_where}
use Rattle.category_mirror.specs.Filings.{block_by, rows_by}
use Rattle.category_mirror.specs.Jobs.{filing_job}
use Rattle.category_mirror.specs.Refiled.{is_refiled, refiled_base}

-- ---- both sides

-- both sides before a session: the handheld, the slots of the desktop, and the place of the picked
-- one
pub record Filing : Type 0 where
  pub device : Device
  pub slots : List SlotValue
  pub picked : ℕ

-- a handheld meets a desktop: the slot of its user is picked
abbrev pub filing_of : Device → List SlotValue → Filing
filing_of device slots = record {
  device = device;
  slots = slots;
  picked = place_for device slots no_wish;
}

-- the picked slot, and its databases
abbrev pub slot_of : Filing → SlotValue
slot_of filing = slot_at filing.slots filing.picked

abbrev pub shelves_of : Filing → ShelvesValue
shelves_of filing = (slot_of filing).shelves

-- the heads of databases as a handheld lists them
abbrev pub heads_of : List DatabaseValue → List DbHead
heads_of databases = map (λ (database : DatabaseValue). listed database.head) databases

-- the names of both sides, in byte order
abbrev pub names : Filing → List (List ℕ)
names filing = names_with (heads_of filing.device.databases) (shelves_of filing)

-- the database of a name: it is skipped, or its categories are brought together
abbrev pub job_named : Filing → List ℕ → FilingJob
job_named filing name = filing_job (heads_of filing.device.databases) (shelves_of filing) name

-- the databases of the session
unfoldable pub jobs : Filing → List FilingJob
jobs filing = map (job_named filing) (names filing)

-- the app block of the database of a name
abbrev pub app_named : List ℕ → List DatabaseValue → Option (List ℕ)
app_named name databases =
    option_and_then (λ (database : DatabaseValue). database.app) (database_of name databases)

abbrev pub merge_unless : Option Skip → Option MergeValue → Option MergeValue
merge_unless (Some skip) merge = None
merge_unless None merge = merge

-- how the categories of a database come together; not at all where it is skipped
unfoldable pub merge_of : Filing → FilingJob → Option MergeValue
merge_of filing job =
    merge_unless job.skip
    (blocks_merge (app_named job.name filing.device.databases)
    (rows_app (shelves_of filing) job.name))

abbrev pub merge_named : Filing → List ℕ → Option MergeValue
merge_named filing name = merge_of filing (job_named filing name)

-- what changes of the desktop: nothing where no row does
unfoldable pub filing_changes : Filing → List DbChange
filing_changes filing =
    flat_map (λ name. change_filed (shelves_of filing) name (merge_named filing name))
    (names filing)

-- ---- what is said

-- under the handle of a database: its block is read, and the merged one written where it differs
abbrev pub block_acts : Filing → FilingJob → ℕ → List ℕ → List Act
block_acts filing job handle given =
    reading_app handle
    ∷ writes_where handle
    (written_block (app_named job.name filing.device.databases) (merge_of filing job))

-- one database of a handheld on which nothing is open; nothing of one that is skipped
unfoldable pub job_acts : Filing → FilingJob → List Act
job_acts filing job =
    unless_skipped job.skip (within (opening job.name) (block_acts filing job) 1 [])

-- all up to the mark
unfoldable pub before_mark : Filing → List Act
before_mark filing =
    greeting ++ (listings (max 1 (length filing.device.databases))
    ++ flat_map (job_acts filing) (jobs filing))

-- where the desktop's rows change, the handheld is to know no desktop
unfoldable pub mark_acts : Filing → List Act
mark_acts filing = marks_for (filing_changes filing) filing.device.user

-- all but the end
unfoldable pub before_end : Filing → List Act
before_end filing = before_mark filing ++ mark_acts filing

-- the whole session
unfoldable pub filing_acts : Filing → List Act
filing_acts filing = before_end filing ++ ending ∷ []

-- how many of these change a handheld
abbrev pub write_count : List Act → ℕ
write_count acts = length (filter changes (map text acts))

-- the blocks that are written, and the mark
abbrev pub block_writes : Filing → ℕ
block_writes filing = write_count (before_end filing)

-- ---- the handheld then

-- a database with the merged table at the head of its app block
abbrev pub with_merge : Option MergeValue → DatabaseValue → DatabaseValue
with_merge merge database = record database { app = block_by database.app merge }

abbrev pub filed_database : Filing → DatabaseValue → DatabaseValue
filed_database filing database = with_merge (merge_named filing database.head.name) database

-- each database has its merged table, and the handheld knows no desktop where the desktop's rows
-- change; all else is as it was
unfoldable pub filed_device : Filing → Device
filed_device filing = record filing.device {
  databases = map (filed_database filing) filing.device.databases;
  user = marked_user (filing_changes filing) filing.device.user;
}

-- a name is among these
abbrev pub is_among : List ℕ → List (List ℕ) → Bool
is_among name names = list_any (λ other. bytes_eq other name) names

abbrev pub filed_where : Filing → List (List ℕ) → DatabaseValue → DatabaseValue
filed_where filing names database =
    if is_among database.head.name names then filed_database filing database else database

-- only the databases of these names have their merged tables yet
unfoldable pub device_among : Filing → List (List ℕ) → Device
device_among filing names =
    record filing.device { databases = map (filed_where filing names) filing.device.databases }

-- in front of its mark: as many blocks were written as the first databases need
pub record StandsUnmarked (filing : Filing) (count writes : ℕ) (after : Device) : Type 0 where
  pub user : after.user ≡ filing.device.user
  pub written :
      writes ≡ write_count (flat_map (job_acts filing) (take count (jobs filing)))

-- behind it: all was written
pub record StandsMarked (filing : Filing) (count writes : ℕ) (after : Device) : Type 0 where
  pub user : after.user ≡ (filed_device filing).user
  pub written : writes ≡ block_writes filing
  pub whole : take count (names filing) ≡ names filing

-- A handheld behind so many writes of a session: the first databases of the session have their
-- merged tables, in byte order of their names, and the others are as they were.
pub record StandsBehind (filing : Filing) (writes : ℕ) (after : Device) : Type 0 where
  pub count : ℕ
  pub databases : after.databases ≡ (device_among filing (take count (names filing))).databases
  pub stage : StandsUnmarked filing count writes after ⊎ StandsMarked filing count writes after

-- ---- the desktop then

-- rows change by a merge
abbrev pub change_by : Option MergeValue → Option DatabaseValue → Bool
change_by None rows = false
change_by (Some merge) None = false
change_by (Some merge) (Some rows) = is_refiled merge rows

-- base rows go along where the rows of their name change
abbrev pub base_by : Option MergeValue → Option DatabaseValue → DatabaseValue → DatabaseValue
base_by None rows base = base
base_by (Some merge) rows base =
    if change_by (Some merge) rows then refiled_base merge base else base

-- an archive of records has its flags clear where the rows of its name change
abbrev pub archive_by : Bool → DatabaseValue → DatabaseValue
archive_by changed archive =
    if changed && not (holds_resources archive.head.attributes || (length archive.records == 0))
    then cleared_database archive else archive

abbrev pub filed_rows : Filing → DatabaseValue → DatabaseValue
filed_rows filing rows = rows_by (merge_named filing rows.head.name) rows

abbrev pub filed_base : Filing → DatabaseValue → DatabaseValue
filed_base filing base =
    base_by (merge_named filing base.head.name)
    (database_of base.head.name (shelves_of filing).rows) base

abbrev pub filed_archive : Filing → DatabaseValue → DatabaseValue
filed_archive filing archive =
    archive_by
    (change_by (merge_named filing archive.head.name)
    (database_of archive.head.name (shelves_of filing).rows)) archive

-- rows have the merged tables, and each record its category in them; base rows go along
unfoldable pub filed_shelves : Filing → ShelvesValue
filed_shelves filing = record {
  rows = map (filed_rows filing) (shelves_of filing).rows;
  bases = map (filed_base filing) (shelves_of filing).bases;
  archives = map (filed_archive filing) (shelves_of filing).archives;
}

-- the picked slot's databases so, all else of it and all other slots as they were
unfoldable pub filed_slots : Filing → List SlotValue
filed_slots filing =
    slice_set filing.slots filing.picked
    (record (slot_of filing) { shelves = filed_shelves filing })

-- ---- what is told

unfoldable pub filing_reports : Filing → List DbReport
filing_reports filing =
    map (λ (job : FilingJob). report_filed (shelves_of filing) job (merge_of filing job))
    (jobs filing)
