-- Which planned database would pass a limit first.
use Rattle.std.specs.Prelude.{ℕ, ◌+◌, ◌-◌, Bool, false, List, [], ◌∷◌, ◌++◌, ◌==◌, filter, length, nat_lt, if◌then◌else◌, is_none, is_some}
use Rattle.std.specs.Prelude.{Option, Some, None}
use Rattle.std.specs.Option.{option_or}
use Rattle.pdb_values.specs.Bounds.{most_databases}
use Rattle.pdb_values.specs.Contents.{ContentValue}
use Rattle.pdb_values.specs.NamedDatabases.{database_of}
use Rattle.conduit_rules.specs.declared.view.Seen.{Seen}
use Rattle.record_merge.specs.Merging.{one_copy_behind}
use Rattle.desk_store.specs.Shelves.{ShelvesValue}
use Rattle.session_plan.specs.declared.planned.Planned.{Planned}
use Rattle.session_plan.specs.declared.sizes.Sizes.{Sizes}
use Rattle.session_plan.specs.Archives.{entries_of}
use Rattle.session_plan.specs.Limits.{with_one}
use Rattle.session_plan.specs.Sizes.{is_over}
use Rattle.session_plan.specs.Tasks.{records_of}

-- ---- rows that no record has the id of, counted in one pass

-- the entries from the first one on whose id is not below
unfoldable pub entries_from : ℕ → List Seen → List Seen
entries_from id [] = []
entries_from id (seen ∷ view) = if nat_lt seen.id id then entries_from id view else seen ∷ view

-- the first of them has the id
abbrev pub begins_with : ℕ → List Seen → Bool
begins_with id [] = false
begins_with id (seen ∷ view) = seen.id == id

abbrev pub one_unless : Bool → ℕ
one_unless there = if there then 0 else 1

-- of rows and entries that are both in rising ids: how many rows have an id that no entry has
unfoldable pub unseen_count : List Seen → List (ℕ × ContentValue) → ℕ
unseen_count view [] = 0
unseen_count view (row ∷ rows) =
    one_unless (begins_with row.0 (entries_from row.0 view))
    + unseen_count (entries_from row.0 view) rows

-- ---- sizes

-- the desktop's rows
abbrev pub rows_planned : Planned → ℕ
rows_planned one = length one.plan.kept.items + length one.plan.adds.items

-- the entries of the archive that a database has
abbrev pub archived_under : ShelvesValue → Planned → List (ℕ × ContentValue)
archived_under shelves one = entries_of (records_of (database_of one.job.name shelves.archives))

-- the entries of the archive once it gets the new ones
abbrev pub archive_planned : ShelvesValue → Planned → ℕ
archive_planned shelves one =
    length (one_copy_behind [] (archived_under shelves one ++ one.plan.archive.items))

-- those of a planned database, where the handheld and the desktop have so many with those that came
-- before
abbrev pub sizes_planned : ShelvesValue → ℕ → ℕ → Planned → Sizes
sizes_planned shelves handhelds desktops one = record {
  handhelds = if is_none one.job.handheld then handhelds + 1 else 0;
  desktops = if is_none one.job.rows then desktops + 1 else 0;
  records =
      length one.view.seen.items
      + (length one.plan.adds.items + unseen_count one.view.seen.items one.plan.kept.items);
  rows = rows_planned one;
  base = rows_planned one + length one.plan.gone.items;
  archive = archive_planned shelves one;
}

-- the first that would pass a limit; one that is skipped does not count
unfoldable pub over_planned : ShelvesValue → ℕ → ℕ → List Planned → Option (List ℕ)
over_planned shelves handhelds desktops [] = None
over_planned shelves handhelds desktops (one ∷ later) =
    if is_some one.job.skip then over_planned shelves handhelds desktops later
    else (if is_over (sizes_planned shelves handhelds desktops one) then Some one.job.name
    else over_planned shelves (with_one one.job.handheld handhelds)
    (with_one one.job.rows desktops) later)

-- ---- how many there are

-- the planned databases that are not skipped
abbrev pub unskipped : List Planned → List Planned
unskipped planned = filter (λ (one : Planned). is_none one.job.skip) planned

-- the one behind so many of them
abbrev pub past_room : ℕ → List Planned → Option (List ℕ)
past_room room [] = None
past_room room (one ∷ later) =
    if is_some one.job.skip then past_room room later
    else (if room == 0 then Some one.job.name else past_room (room - 1) later)

-- the 201st of them, which has no place on a handheld
abbrev pub past_most : List Planned → Option (List ℕ)
past_most planned = past_room most_databases planned

-- the first that would pass a limit, or else that one
abbrev pub limit_planned : ShelvesValue → ℕ → ℕ → List Planned → Option (List ℕ)
limit_planned shelves handhelds desktops planned =
    option_or (over_planned shelves handhelds desktops planned) (past_most planned)
