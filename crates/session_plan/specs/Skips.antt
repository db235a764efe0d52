-- Which databases of a session are skipped, and why: the first reason that holds.
use Rattle.std.specs.Prelude.{Bool, false, not, ◌&&◌, ◌||◌, ℕ, List, filter, if◌then◌else◌, is_none, is_some, Option, Some, None}
use Rattle.std.specs.Option.{option_map}
use Rattle.std.specs.Str.{bytes_eq}
use Rattle.pdb_values.specs.Databases.{DatabaseValue}
use Rattle.pdb_values.specs.Heads.{holds_resources, is_read_only, is_stream}
use Rattle.pdb_values.specs.declared.head.DbHead.{DbHead}
use Rattle.conduit_rules.specs.declared.action.Action.{Action}
use Rattle.conduit_rules.specs.declared.action.Action.TheVariants.{Sync, Handheld, Desktop, Both}
use Rattle.session_parts.specs.declared.skip.Skip.{Skip}
use Rattle.session_parts.specs.declared.skip.Skip.TheVariants as skip
use Rattle.session_plan.specs.Tasks.{Meeting, Task, tasks}

abbrev pub head_of : Option DatabaseValue → Option DbHead
head_of database = option_map (λ (database : DatabaseValue). database.head) database

-- the attributes of a head that may not be there pass a test
abbrev pub passes : (ℕ → Bool) → Option DbHead → Bool
passes test None = false
passes test (Some head) = test head.attributes

-- a side's attributes do: those of the handheld's database, or of the desktop's rows
abbrev pub one_passes : (ℕ → Bool) → Option DbHead → Option DbHead → Bool
one_passes test handheld rows = passes test handheld || passes test rows

-- both sides have it and its type or creator differs
abbrev pub differ : Option DbHead → Option DbHead → Bool
differ (Some handheld) (Some rows) =
    not (bytes_eq handheld.kind.0 rows.kind.0 && bytes_eq handheld.creator.0 rows.creator.0)
differ (Some handheld) None = false
differ None rows = false

-- the handheld lacks what an earlier session left on both sides, or the side that the action goes
-- by lacks it
abbrev pub is_missing : Action → Option DbHead → Option DbHead → Bool → Bool
is_missing Sync handheld rows has_base = is_none handheld && has_base
is_missing Handheld handheld rows has_base = is_none handheld
is_missing Desktop handheld rows has_base = is_none rows
is_missing Both handheld rows has_base = is_none handheld && has_base

-- the first reason of a database with an action, by the heads of the handheld's database and of the
-- desktop's rows
abbrev pub reason : Action → Option DbHead → Option DbHead → Bool → Option Skip
reason action handheld rows has_base =
    if one_passes holds_resources handheld rows then Some skip.Resource
    else (if one_passes is_read_only handheld rows then Some skip.ReadOnly
    else (if one_passes is_stream handheld rows then Some skip.Stream
    else (if differ handheld rows then Some skip.Differs
    else (if is_missing action handheld rows has_base then Some skip.Missing else None))))

abbrev pub reason_by : Option Action → Option DbHead → Option DbHead → Bool → Option Skip
reason_by None handheld rows has_base = Some skip.Nothing
reason_by (Some action) handheld rows has_base = reason action handheld rows has_base

-- why a database is skipped, if it is
unfoldable pub skip_of : Task → Option Skip
skip_of task = reason_by task.action (head_of task.handheld) (head_of task.rows) (is_some task.base)

-- the databases that are not skipped
unfoldable pub active : Meeting → List Task
active meeting = filter (λ task. is_none (skip_of task)) (tasks meeting)
