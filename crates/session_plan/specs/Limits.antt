-- Whether a session would pass a limit of a side, and with which database first: it is refused
-- before anything is written.
use Rattle.std.specs.Prelude.{ℕ, ◌+◌, List, [], ◌∷◌, length, if◌then◌else◌, is_none, Option, Some, None}
use Rattle.conduit_rules.specs.ById.{each_id}
use Rattle.conduit_rules.specs.States.{first}
use Rattle.conduit_rules.specs.Plans.{gone_rows, kept_rows}
use Rattle.record_merge.specs.Merging.{merged_archive, new_under}
use Rattle.desk_store.specs.Desks.{all_rows}
use Rattle.session_plan.specs.Tasks.{Meeting, Task, records_of}
use Rattle.session_plan.specs.Archives.{entries_of}
use Rattle.session_plan.specs.Skips.{active}
use Rattle.session_plan.specs.Sizes.{is_over}
use Rattle.session_plan.specs.declared.sizes.Sizes.{Sizes}
use Rattle.session_plan.specs.Choosing.{choice, seen_held, add_count}

-- the records that the handheld gets beside those that it has: the adds, and what is kept under ids
-- that no record has
abbrev pub new_count : Meeting → Task → ℕ
new_count meeting task =
    add_count meeting task
    + length (each_id
    (λ i. new_under i (first i (records_of task.handheld)) ((choice meeting task).keep i)))

abbrev pub row_count : Meeting → Task → ℕ
row_count meeting task = length (kept_rows (choice meeting task).keep) + add_count meeting task

abbrev pub gone_count : Meeting → Task → ℕ
gone_count meeting task = length (gone_rows (choice meeting task).keep (seen_held meeting task))

-- how many entries its merged archive has
abbrev pub archive_count : Meeting → Task → ℕ
archive_count meeting task =
    length (merged_archive (choice meeting task) (entries_of (records_of task.archive)))

-- how many databases a side has, with this one
abbrev pub with_one : {A : Type 0} → Option A → ℕ → ℕ
with_one None count = count + 1
with_one (Some a) count = count

-- those of a database, where the handheld and the desktop have so many with those that came before
abbrev pub sizes_of : Meeting → ℕ → ℕ → Task → Sizes
sizes_of meeting handhelds desktops task = record {
  handhelds = if is_none task.handheld then handhelds + 1 else 0;
  desktops = if is_none task.rows then desktops + 1 else 0;
  records = length (records_of task.handheld) + new_count meeting task;
  rows = row_count meeting task;
  base = row_count meeting task + gone_count meeting task;
  archive = archive_count meeting task;
}

unfoldable pub first_behind : Meeting → ℕ → ℕ → List Task → Option (List ℕ)
first_behind meeting handhelds desktops [] = None
first_behind meeting handhelds desktops (task ∷ later) =
    if is_over (sizes_of meeting handhelds desktops task) then Some task.name
    else first_behind meeting (with_one task.handheld handhelds) (with_one task.rows desktops) later

-- the first database that would pass a limit; the desktop's databases are those of all its slots
unfoldable pub first_over : Meeting → Option (List ℕ)
first_over meeting =
    first_behind meeting (length meeting.device.databases) (all_rows meeting.slots) (active meeting)
