-- News, one database after another.
use Rattle.std.proofs.lemmas.Result.{err_from_is_err_and}
use Rattle.mirrors.proofs.NewsLaws.{split_at}
use Rattle.std.proofs.Common.{◌∙◌, ap, ℕ}
use Rattle.std.proofs.lemmas.List.{map-append}
use Rattle.std.specs.Global.{Vec}
use Rattle.session_plan.specs.Takes.{each_of}
use Rattle.session_parts.proofs.EachFollows.{asked_all, asked_lost, asked_next, asked_none, asked_stop}
use Rattle.session_parts.proofs.EachLaws.{each_lost, each_none, each_on, each_stopped}
use Rattle.sync_session.proofs.giving.give_all.Goals as goal

pub loop-one-init : goal.loop-one-init
loop-one-init g c = (
  rw c.new-ids.ensures.items (each_none g.met.L.Link.since_itself),
  asked_none g.met.L.Link.heard_none (ap each_of c.new-ids.ensures.items),
)

pub loop-one-preserved : goal.loop-one-preserved
loop-one-preserved g c =
    let split = split_at c.args.planned.now c.loop-one.one-index c.one-item.result c.loop-one-test.true c.one-item.is in (
      rw c.in_ok-push_ids.ensures.ids (each_on split g.met.L.Link.since_more c.loop-one.invariant.0 c.in_ok-more.ensures.spans),
      asked_next g.met.L.Link.heard_more c.loop-one-test.true c.one-item.is c.loop-one.invariant.1
          (ap each_of c.in_ok-push_ids.ensures.ids ∙ map-append (λ (one : Vec ℕ). one.items) c.loop-one.ids.items _) c.in_ok-more.ensures.follows,
    )

pub returns-in_err-more : goal.returns-in_err-more
returns-in_err-more g c =
    let p = err_from_is_err_and c.from_residual.result c.from_residual.ensures.1 in
    let split = split_at c.args.planned.now c.loop-one.one-index c.one-item.result c.loop-one-test.true c.one-item.is in
    record {
      gives = rw (p.1, p.2) (each_stopped split g.met.L.Link.since_more c.loop-one.invariant.0 c.in_err-more.ensures.spans);
      follows = rw (p.1, p.2) (asked_stop g.met.L.Link.heard_more c.loop-one-test.true c.one-item.is
          c.loop-one.invariant.1 c.in_err-more.ensures.follows);
    }

pub returns-in_err-push_ids : goal.returns-in_err-push_ids
returns-in_err-push_ids g c =
    let p = err_from_is_err_and c.from_residual-in_err-push_ids.result c.from_residual-in_err-push_ids.ensures.1 in
    let split = split_at c.args.planned.now c.loop-one.one-index c.one-item.result c.loop-one-test.true c.one-item.is in
    record {
      gives = rw (p.1, p.2) (each_lost split (each_on split g.met.L.Link.since_more c.loop-one.invariant.0 c.in_ok-more.ensures.spans)
          (rw c.in_err-push_ids.ensures.memory tt));
      follows = rw (p.1, p.2, c.in_err-push_ids.ensures.memory) (asked_lost g.met.L.Link.heard_more
          c.loop-one-test.true c.one-item.is c.loop-one.invariant.1 c.in_ok-more.ensures.follows);
    }

pub returns-clause-follows : goal.returns-clause-follows
returns-clause-follows g c = asked_all c.loop-one-test.false c.loop-one.invariant.1
