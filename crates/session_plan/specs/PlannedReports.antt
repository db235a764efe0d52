-- What is told of planned databases once a session has ended.
use Rattle.std.specs.Prelude.{ℕ, ◌-◌, [], length, map, List, min, Option, Some, None}
use Rattle.record_merge.specs.Merging.{one_copy_behind}
use Rattle.desk_store.specs.Shelves.{ShelvesValue}
use Rattle.session_plan.specs.declared.planned.Planned.{Planned}
use Rattle.session_parts.specs.declared.report.Counts.{Counts}
use Rattle.session_parts.specs.declared.report.DbReport.{DbReport}
use Rattle.session_parts.specs.declared.report.Did.{Did}
use Rattle.session_parts.specs.declared.report.Did.TheVariants.{Synced, Skipped}
use Rattle.session_parts.specs.declared.skip.Skip.{Skip}
use Rattle.session_plan.specs.PlannedLimits.{archive_planned, archived_under, rows_planned}
use Rattle.session_plan.specs.Reports.{read_count}

-- a number of 32 bits, which is the greatest where it would be more
abbrev pub told : ℕ → ℕ
told count = min count 4294967295

-- the new entries of the archive, behind the old ones
abbrev pub archived_planned : ShelvesValue → Planned → ℕ
archived_planned shelves one =
    archive_planned shelves one - length (one_copy_behind [] (archived_under shelves one))

-- how a planned database is synchronised, where the desktop has these databases before
abbrev pub counts_planned : ShelvesValue → Planned → Counts
counts_planned shelves one = record {
  fast = one.job.fast;
  read = told (read_count one.view.seen.items);
  replaced = told (length one.plan.replace.items);
  added = told (length one.plan.adds.items);
  purged = told (length one.plan.purge.items);
  archived = told (archived_planned shelves one);
  twice = told one.plan.twice;
  rows = told (rows_planned one);
}

abbrev pub did_by_plan : ShelvesValue → Planned → Option Skip → Did
did_by_plan shelves one None = Synced (counts_planned shelves one)
did_by_plan shelves one (Some skip) = Skipped skip

-- what is done with a planned database, under its name
abbrev pub report_planned : ShelvesValue → Planned → DbReport
report_planned shelves one = record {
  name = one.job.name;
  did = did_by_plan shelves one one.job.skip;
}

-- with each of them
unfoldable pub reports_planned : ShelvesValue → List Planned → List DbReport
reports_planned shelves planned = map (report_planned shelves) planned
