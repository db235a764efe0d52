-- What is planned for the databases of a session, from what was seen of them.
use Rattle.std.specs.Prelude.{◌≡◌, ℕ, Bool, List, map}
use Rattle.std.specs.List.{AllByRecursion}
use Rattle.pdb_values.specs.NamedDatabases.{database_of}
use Rattle.conduit_rules.specs.Choices.{Sides}
use Rattle.conduit_rules.specs.Plans.{IsPlan}
use Rattle.conduit_rules.specs.declared.planned.Plan.{Plan}
use Rattle.conduit_rules.specs.declared.view.Seen.{Seen}
use Rattle.conduit_rules.specs.declared.view.View.{View}
use Rattle.desk_store.specs.Shelves.{ShelvesValue}
use Rattle.session_plan.specs.declared.job.Job.{Job}
use Rattle.session_plan.specs.declared.planned.Planned.{Planned}
use Rattle.session_plan.specs.Choosing.{action_or_sync, sides_by}

-- the database of a job, as it was seen and as the desktop has it
abbrev pub sides_under : ShelvesValue → (List ℕ → Bool) → Job → List Seen → Sides
sides_under shelves agree job seen =
    sides_by seen (database_of job.name shelves.rows) (database_of job.name shelves.bases)
    (agree job.name)

-- a plan is that of its action
abbrev pub IsPlanUnder : ShelvesValue → (List ℕ → Bool) → Job → View → Plan → Type 0
IsPlanUnder shelves agree job view plan =
    IsPlan (action_or_sync job.action) (sides_under shelves agree job view.seen.items) plan

-- each job has its view and its plan
pub record ArePlanned (shelves : ShelvesValue) (agree : List ℕ → Bool) (jobs : List Job) (views : List View)
    (planned : List Planned) : Type 0 where
  pub jobs_are : map (λ (one : Planned). one.job) planned ≡ jobs
  pub views_are : map (λ (one : Planned). one.view) planned ≡ views
  pub plans : AllByRecursion
      (λ (one : Planned). IsPlanUnder shelves agree one.job one.view one.plan) planned
