-- Purges, one database after another.
use Rattle.std.proofs.lemmas.Result.{err_from_is_err_and}
use Rattle.mirrors.proofs.NewsLaws.{split_at}
use Rattle.std.proofs.Common.{refl}
use Rattle.std.proofs.lemmas.List.{take_all}
use Rattle.session_parts.proofs.EachFollows.{asked_all, asked_next, asked_none, asked_stop}
use Rattle.session_parts.proofs.EachLaws.{done_each-next, each_none, each_on, each_stopped}
use Rattle.sync_session.proofs.purging.purge_all.Goals as goal

pub loop-one-init : goal.loop-one-init
loop-one-init g c = (each_none g.met.L.Link.since_itself, asked_none g.met.L.Link.heard_none refl)

pub loop-one-preserved : goal.loop-one-preserved
loop-one-preserved g c =
    let split = split_at c.args.planned.now c.loop-one.one-index c.one-item.result c.loop-one-test.true c.one-item.is in (
      rw (done_each-next split) (each_on split g.met.L.Link.since_more c.loop-one.invariant.0 c.in_ok-purge_planned.ensures.spans),
      asked_next g.met.L.Link.heard_more c.loop-one-test.true c.one-item.is c.loop-one.invariant.1 (done_each-next split)
          c.in_ok-purge_planned.ensures.follows,
    )

pub returns-in_err-purge_planned : goal.returns-in_err-purge_planned
returns-in_err-purge_planned g c =
    let p = err_from_is_err_and c.from_residual.result c.from_residual.ensures.1 in
    let split = split_at c.args.planned.now c.loop-one.one-index c.one-item.result c.loop-one-test.true c.one-item.is in
    record {
      purges = rw (p.1, p.2) (each_stopped split g.met.L.Link.since_more c.loop-one.invariant.0 c.in_err-purge_planned.ensures.spans);
      follows = rw (p.1, p.2) (asked_stop g.met.L.Link.heard_more c.loop-one-test.true c.one-item.is c.loop-one.invariant.1
          c.in_err-purge_planned.ensures.follows);
    }

pub returns-clause-follows : goal.returns-clause-follows
returns-clause-follows g c =
    rw (take_all c.loop-one.one-index c.args.planned.now c.loop-one-test.false) at (asked_all c.loop-one-test.false c.loop-one.invariant.1)
