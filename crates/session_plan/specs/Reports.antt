-- What is told of each database once a session has ended.
use Rattle.std.specs.Prelude.{ℕ, ◌-◌, Bool, true, false, List, [], filter, length, map, Option, Some, None}
use Rattle.conduit_rules.specs.Choices.{kept_twice}
use Rattle.conduit_rules.specs.Plans.{replaced_rows, purged_ids}
use Rattle.conduit_rules.specs.declared.view.Seen.{Seen}
use Rattle.conduit_rules.specs.declared.view.SeenState.{SeenState}
use Rattle.conduit_rules.specs.declared.view.SeenState.TheVariants.{Unread}
use Rattle.record_merge.specs.Merging.{one_copy_behind}
use Rattle.session_parts.specs.declared.skip.Skip.{Skip}
use Rattle.session_plan.specs.Archives.{entries_of}
use Rattle.session_plan.specs.Tasks.{Meeting, Task, records_of, tasks}
use Rattle.session_plan.specs.Skips.{skip_of}
use Rattle.session_plan.specs.Choosing.{action_or_sync, choice, is_fast, seen_held, sides, view, add_count}
use Rattle.session_plan.specs.Limits.{archive_count, row_count}
use Rattle.session_parts.specs.declared.report.Counts.{Counts}
use Rattle.session_parts.specs.declared.report.DbReport.{DbReport}
use Rattle.session_parts.specs.declared.report.Did.{Did}
use Rattle.session_parts.specs.declared.report.Did.TheVariants.{Synced, Skipped}

-- an entry of a view that was received
abbrev pub is_received : SeenState → Bool
is_received Unread = false
is_received other = true

-- how many records were received
abbrev pub read_count : List Seen → ℕ
read_count view = length (filter (λ (seen : Seen). is_received seen.state) view)

-- the new entries of the archive, behind the old ones
abbrev pub archived_count : Meeting → Task → ℕ
archived_count meeting task =
    archive_count meeting task - length (one_copy_behind [] (entries_of (records_of task.archive)))

-- how many records both sides changed, each its own way
abbrev pub twice_count : Meeting → Task → ℕ
twice_count meeting task = length (kept_twice (action_or_sync task.action) (sides meeting task))

-- how a database was synchronised
abbrev pub counts_of : Meeting → Task → Counts
counts_of meeting task = record {
  fast = is_fast meeting task;
  read = read_count (view meeting task);
  replaced = length (replaced_rows (choice meeting task).keep (seen_held meeting task));
  added = add_count meeting task;
  purged = length (purged_ids (choice meeting task).keep (seen_held meeting task));
  archived = archived_count meeting task;
  twice = twice_count meeting task;
  rows = row_count meeting task;
}

abbrev pub did_by : Meeting → Task → Option Skip → Did
did_by meeting task None = Synced (counts_of meeting task)
did_by meeting task (Some skip) = Skipped skip

-- what was done with a database
unfoldable pub did_of : Meeting → Task → Did
did_of meeting task = did_by meeting task (skip_of task)

-- what is told of a database: what was done, under its name
abbrev pub report_of : Meeting → Task → DbReport
report_of meeting task = record { name = task.name; did = did_of meeting task }

-- of all databases of a session, in byte order of their names
unfoldable pub reports : Meeting → List DbReport
reports meeting = map (report_of meeting) (tasks meeting)
