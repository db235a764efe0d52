use Rattle.std.proofs.Common.{◌≡◌, map, take}
use Rattle.desk_store.specs.Views.{shelves_in}
use Rattle.category_mirror.proofs.JobLaws.{filed_job}
use Rattle.category_mirror.proofs.job.filing_jobs.Given as goal

abbrev pub invariant-loop-job : goal.invariant-loop-job
invariant-loop-job g l = l.made.items ≡ map (filed_job (shelves_in l.desk)) (take l.job-index l.job-items)
