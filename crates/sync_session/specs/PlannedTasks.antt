-- Planned databases that are those of a meeting.
use Rattle.std.specs.Prelude.{◌≡◌, ℕ, List, [], ◌∷◌, is_some, length, None, Option}
use Rattle.std.specs.Option.{option_map}
use Rattle.pdb_values.specs.Databases.{DatabaseValue}
use Rattle.pdb_values.specs.declared.head.DbHead.{DbHead}
use Rattle.dlp_commands.specs.DatabaseFunctions.{listed}
use Rattle.conduit_rules.specs.Plans.{IsPlan}
use Rattle.desk_store.specs.Desks.{all_rows}
use Rattle.session_parts.specs.declared.report.DbReport.{DbReport}
use Rattle.session_plan.specs.declared.job.Job.{Job}
use Rattle.session_plan.specs.declared.planned.Planned.{Planned}
use Rattle.session_plan.specs.Choosing.{action_or_sync, agrees, sides, view}
use Rattle.session_plan.specs.Jobs.{job_by}
use Rattle.session_plan.specs.PlannedLimits.{limit_planned, over_planned}
use Rattle.session_plan.specs.PlannedReports.{reports_planned}
use Rattle.session_plan.specs.Skips.{head_of, skip_of}
use Rattle.session_plan.specs.Tasks.{Meeting, Task, slot_of, tasks}

-- the head of a database as a list of the handheld tells it
abbrev pub listed_head : Option DatabaseValue → Option DbHead
listed_head database = option_map (λ (database : DatabaseValue). listed database.head) database

-- a database of a meeting, as it is before it is read
abbrev pub job_for : Meeting → Task → Job
job_for meeting task =
    job_by task.name (listed_head task.handheld) (head_of task.rows)
    (is_some task.base) task.action (agrees meeting task.name) meeting.wishes.slow

-- it is that of the meeting, and where it isn't skipped it was seen as it is, and what is planned
-- is the plan of its action
pub record IsPlannedFor (meeting : Meeting) (task : Task) (one : Planned) : Type 0 where
  pub job : one.job ≡ job_for meeting task
  pub seen : skip_of task ≡ None → one.view.seen.items ≡ view meeting task
  pub plan : skip_of task ≡ None → IsPlan (action_or_sync task.action) (sides meeting task) one.plan

-- each in order
abbrev pub AreEachPlannedFor : Meeting → List Task → List Planned → Type 0
AreEachPlannedFor meeting [] [] = Unit {0}
AreEachPlannedFor meeting [] (one ∷ planned) = ⊥
AreEachPlannedFor meeting (task ∷ later) [] = ⊥
AreEachPlannedFor meeting (task ∷ later) (one ∷ planned) =
    IsPlannedFor meeting task one × AreEachPlannedFor meeting later planned

-- these are the databases of a meeting, all of them
abbrev pub ArePlannedFor : Meeting → List Planned → Type 0
ArePlannedFor meeting planned = AreEachPlannedFor meeting (tasks meeting) planned

-- the first planned database by which they would pass a limit, and the limit that a session tells,
-- over what the meeting's sides hold
abbrev pub over_in : Meeting → List Planned → Option (List ℕ)
over_in meeting planned =
    over_planned (slot_of meeting).shelves (length meeting.device.databases)
    (all_rows meeting.slots) planned

abbrev pub limit_in : Meeting → List Planned → Option (List ℕ)
limit_in meeting planned =
    limit_planned (slot_of meeting).shelves (length meeting.device.databases)
    (all_rows meeting.slots) planned

-- what is told of the planned databases
abbrev pub reports_in : Meeting → List Planned → List DbReport
reports_in meeting planned = reports_planned (slot_of meeting).shelves planned
