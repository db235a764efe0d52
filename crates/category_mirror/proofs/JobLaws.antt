-- The databases of a session that brings categories together.
use Rattle.std.proofs.Common.{◌≡◌, ◌∙◌, ap, refl, ℕ, false, List, [], ◌∷◌, map}
use Rattle.pdb_values.specs.NamedDatabases.{database_of}
use Rattle.pdb_values.specs.declared.head.DbHead.{DbHead}
use Rattle.std.specs.Prelude.{◌&&◌, is_some}
use Rattle.desk_store.specs.Shelves.{ShelvesValue}
use Rattle.session_plan.specs.Fits.{Rise}
use Rattle.session_plan.specs.Jobs.{job_of, jobs_of, names_with}
use Rattle.session_plan.specs.Tasks.{names_of, with_names}
use Rattle.session_plan.specs.declared.job.Job.{Job}
use Rattle.session_plan.specs.declared.wishes.Wishes.{Wishes}
use Rattle.session_plan.proofs.RiseLaws.{rise-with_names}
use Rattle.category_mirror.specs.declared.job.FilingJob.{FilingJob}
use Rattle.category_mirror.specs.Jobs.{filing_job, filing_jobs, holds_records, names_filed, or_missing}

-- a database as a session that would synchronise it has it
abbrev pub filed_job : ShelvesValue → Job → FilingJob
filed_job shelves job = record {
  name = job.name;
  skip = or_missing job.skip (is_some job.handheld && (is_some job.rows && holds_records (database_of job.name shelves.bases)));
}

jobs-filed : (heads : List DbHead) (shelves : ShelvesValue) (wishes : Wishes) (names : List (List ℕ)) → wishes.actions.items ≡ []
    → map (filed_job shelves) (map (job_of heads shelves (λ other. false) wishes) names) ≡ map (filing_job heads shelves) names
jobs-filed heads shelves wishes [] none = refl
jobs-filed heads shelves wishes (name ∷ names) none =
    let one : filed_job shelves (job_of heads shelves (λ other. false) wishes name) ≡ filing_job heads shelves name = rw none refl in
    ap (λ job. job ∷ map (filed_job shelves) (map (job_of heads shelves (λ other. false) wishes) names)) one
    ∙ ap (λ jobs. filing_job heads shelves name ∷ jobs) (jobs-filed heads shelves wishes names none)

pub jobs-are : (heads : List DbHead) (shelves : ShelvesValue) (wishes : Wishes) → wishes.actions.items ≡ []
    → map (filed_job shelves) (jobs_of heads shelves (λ other. false) wishes) ≡ filing_jobs heads shelves
unfolding jobs_of filing_jobs
jobs-are heads shelves wishes none = jobs-filed heads shelves wishes (names_with heads shelves) none

names-jobs : (heads : List DbHead) (shelves : ShelvesValue) (names : List (List ℕ)) → names_filed (map (filing_job heads shelves) names) ≡ names
names-jobs heads shelves [] = refl
names-jobs heads shelves (name ∷ names) = ap (λ more. name ∷ more) (names-jobs heads shelves names)

pub names-rise : (heads : List DbHead) (shelves : ShelvesValue) → Rise (names_filed (filing_jobs heads shelves))
unfolding filing_jobs
names-rise heads shelves =
    rw (names-jobs heads shelves (names_with heads shelves)) (rise-with_names (names_of shelves.rows) (with_names (map (λ (head : DbHead). head.name) heads) [])
    (rise-with_names (map (λ (head : DbHead). head.name) heads) [] tt))
