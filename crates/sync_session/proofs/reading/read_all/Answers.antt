-- One database is read after another.
use Rattle.std.proofs.lemmas.Result.{err_from_is_err_and}
use Rattle.mirrors.proofs.NewsLaws.{split_at}
use Rattle.std.proofs.Common.{◌∙◌, ap}
use Rattle.std.proofs.lemmas.List.{map-append}
use Rattle.conduit_rules.specs.declared.view.View.{View}
use Rattle.sync_session.specs.Inquiries.{each_seen}
use Rattle.session_parts.proofs.EachFollows.{asked_all, asked_lost, asked_next, asked_none, asked_stop}
use Rattle.session_parts.proofs.EachLaws.{each_lost, each_none, each_on, each_stopped}
use Rattle.sync_session.proofs.reading.read_all.Goals as goal

pub loop-job-init : goal.loop-job-init
loop-job-init g c = (
  rw c.new-views.ensures.items (each_none g.met.L.Link.since_itself),
  asked_none g.met.L.Link.heard_none (ap each_seen c.new-views.ensures.items),
)

pub loop-job-preserved : goal.loop-job-preserved
loop-job-preserved g c =
    let split = split_at c.args.jobs.now c.loop-job.job-index c.job-item.result c.loop-job-test.true c.job-item.is in (
      rw c.in_ok-push_view.ensures.views (each_on split g.met.L.Link.since_more c.loop-job.invariant.0 c.in_ok-view.ensures.spans),
      asked_next g.met.L.Link.heard_more c.loop-job-test.true c.job-item.is c.loop-job.invariant.1
          (ap each_seen c.in_ok-push_view.ensures.views ∙ map-append (λ (view : View). view.seen.items) c.loop-job.views.items _)
          c.in_ok-view.ensures.follows,
    )

pub returns-in_err-view : goal.returns-in_err-view
returns-in_err-view g c =
    let p = err_from_is_err_and c.from_residual.result c.from_residual.ensures.1 in
    let split = split_at c.args.jobs.now c.loop-job.job-index c.job-item.result c.loop-job-test.true c.job-item.is in
    record {
      reads = rw (p.1, p.2) (each_stopped split g.met.L.Link.since_more c.loop-job.invariant.0 c.in_err-view.ensures.spans);
      follows = rw (p.1, p.2) (asked_stop g.met.L.Link.heard_more c.loop-job-test.true c.job-item.is
          c.loop-job.invariant.1 c.in_err-view.ensures.follows);
    }

pub returns-in_err-push_view : goal.returns-in_err-push_view
returns-in_err-push_view g c =
    let p = err_from_is_err_and c.from_residual-in_err-push_view.result c.from_residual-in_err-push_view.ensures.1 in
    let split = split_at c.args.jobs.now c.loop-job.job-index c.job-item.result c.loop-job-test.true c.job-item.is in
    record {
      reads = rw (p.1, p.2) (each_lost split (each_on split g.met.L.Link.since_more c.loop-job.invariant.0 c.in_ok-view.ensures.spans)
          (rw c.in_err-push_view.ensures.memory tt));
      follows = rw (p.1, p.2, c.in_err-push_view.ensures.memory) (asked_lost g.met.L.Link.heard_more
          c.loop-job-test.true c.job-item.is c.loop-job.invariant.1 c.in_ok-view.ensures.follows);
    }

pub returns-clause-follows : goal.returns-clause-follows
returns-clause-follows g c = asked_all c.loop-job-test.false c.loop-job.invariant.1
