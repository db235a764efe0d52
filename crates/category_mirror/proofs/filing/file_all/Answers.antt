-- One database is brought together after another.
use Rattle.std.proofs.lemmas.Result.{err_from_is_err_and}
use Rattle.mirrors.proofs.NewsLaws.{split_at}
use Rattle.session_parts.proofs.EachLaws.{each_lost, each_none, each_on, each_stopped}
use Rattle.category_mirror.proofs.filing.file_all.Goals as goal

pub loop-job-init : goal.loop-job-init
loop-job-init g c = rw c.new-merges.ensures.items (each_none g.met.L.Link.since_itself)

pub loop-job-preserved : goal.loop-job-preserved
loop-job-preserved g c =
    let split = split_at c.args.jobs.now c.loop-job.job-index c.job-item.result c.loop-job-test.true c.job-item.is in
    rw c.in_ok-push_merge.ensures.merges (each_on split g.met.L.Link.since_more c.loop-job.invariant c.in_ok-merge.ensures.spans)

pub returns-in_err-merge : goal.returns-in_err-merge
returns-in_err-merge g c =
    let p = err_from_is_err_and c.from_residual.result c.from_residual.ensures.1 in
    let split = split_at c.args.jobs.now c.loop-job.job-index c.job-item.result c.loop-job-test.true c.job-item.is in
    record { files = rw (p.1, p.2) (each_stopped split g.met.L.Link.since_more c.loop-job.invariant c.in_err-merge.ensures.spans) }

pub returns-in_err-push_merge : goal.returns-in_err-push_merge
returns-in_err-push_merge g c =
    let p = err_from_is_err_and c.from_residual-in_err-push_merge.result c.from_residual-in_err-push_merge.ensures.1 in
    let split = split_at c.args.jobs.now c.loop-job.job-index c.job-item.result c.loop-job-test.true c.job-item.is in
    record {
      files = rw (p.1, p.2) (each_lost split (each_on split g.met.L.Link.since_more c.loop-job.invariant c.in_ok-merge.ensures.spans)
          (rw c.in_err-push_merge.ensures.memory tt));
    }
