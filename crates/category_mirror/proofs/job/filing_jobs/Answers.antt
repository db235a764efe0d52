-- The jobs of a session that would synchronise, each as it is.
use Rattle.std.proofs.Common.{◌∙◌, ap, map}
use Rattle.std.proofs.lemmas.List.{take_all}
use Rattle.desk_store.specs.Views.{shelves_in}
use Rattle.category_mirror.proofs.JobLaws.{filed_job, jobs-are}
use Rattle.category_mirror.proofs.job.filing_jobs.Goals as goal

pub returns : goal.returns
returns g c =
    c.loop-job.invariant
    ∙ ap (map (filed_job (shelves_in c.args.desk.now)))
    (take_all c.loop-job.job-index c.deref-job-items.result.now c.loop-job-test.false ∙ c.deref-job-items.ensures.value ∙ c.in_ok-jobs.ensures)
    ∙ jobs-are c.args.heads.now (shelves_in c.args.desk.now) _ c.new.ensures.items
