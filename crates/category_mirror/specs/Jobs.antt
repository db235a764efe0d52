-- The databases whose categories a session brings together, and why it skips others.
use Rattle.std.specs.Prelude.{Bool, false, not, ◌&&◌, ℕ, List, is_some, map, Option, None, Some, if◌then◌else◌}
use Rattle.pdb_values.specs.Databases.{DatabaseValue}
use Rattle.pdb_values.specs.Heads.{holds_resources}
use Rattle.pdb_values.specs.NamedDatabases.{database_of}
use Rattle.pdb_values.specs.declared.head.DbHead.{DbHead}
use Rattle.conduit_rules.specs.declared.action.Action.TheVariants as action
use Rattle.desk_store.specs.Shelves.{ShelvesValue}
use Rattle.session_parts.specs.declared.skip.Skip.{Skip}
use Rattle.session_parts.specs.declared.skip.Skip.TheVariants as skip
use Rattle.session_plan.specs.Jobs.{head_named, names_with}
use Rattle.session_plan.specs.Skips.{head_of, reason}
use Rattle.category_mirror.specs.declared.job.FilingJob.{FilingJob}

-- a database is there and holds records
abbrev pub holds_records : Option DatabaseValue → Bool
holds_records None = false
holds_records (Some database) = not (holds_resources database.head.attributes)

-- where no reason stands before, one that is not whole is missing
abbrev pub or_missing : Option Skip → Bool → Option Skip
or_missing (Some reason) whole = Some reason
or_missing None whole = if whole then None else Some skip.Missing

-- both sides have the database, and the desktop its base rows, which are records
abbrev pub is_whole : Option DbHead → Option DbHead → Option DatabaseValue → Bool
is_whole handheld rows base = is_some handheld && (is_some rows && holds_records base)

-- the first reason: that of a session that would synchronise it, or the handheld lacks it, or the
-- desktop lacks its rows or its base rows
abbrev pub filing_reason : Option DbHead → Option DbHead → Option DatabaseValue → Option Skip
filing_reason handheld rows base =
    or_missing (reason action.Sync handheld rows (is_some base))
    (is_whole handheld rows base)

abbrev pub filing_job : List DbHead → ShelvesValue → List ℕ → FilingJob
filing_job heads shelves name = record {
  name = name;
  skip = filing_reason (head_named name heads) (head_of (database_of name shelves.rows))
      (database_of name shelves.bases);
}

-- the databases of both sides, in byte order of their names
unfoldable pub filing_jobs : List DbHead → ShelvesValue → List FilingJob
filing_jobs heads shelves = map (filing_job heads shelves) (names_with heads shelves)

-- their names
abbrev pub names_filed : List FilingJob → List (List ℕ)
names_filed jobs = map (λ (job : FilingJob). job.name) jobs
