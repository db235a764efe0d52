-- Purges grow by one.
use Rattle.std.proofs.Common.{refl, ap, arith}
use Rattle.std.proofs.lemmas.Result.{err_from_is_err_and}
use Rattle.mirrors.proofs.NewsLaws.{remove_done, remove_none, remove_on, remove_stop, split_at}
use Rattle.desktop_session.proofs.LastLaws.{last_removed}
use Rattle.desktop_session.proofs.GreetLaws.{no_fault_said}
use Rattle.mirrors.proofs.PartFollows.{left_all, loop_begins, loop_done, loop_on, loop_stop, next_left, none_after}
use Rattle.mirrors.proofs.WriteFollows.{removes-end, removes-next}
use Rattle.mirrors.specs.WriteInquiries.{removes_each}
use Rattle.mirrors.proofs.writing.remove_all.Goals as goal

pub loop-id-init : goal.loop-id-init
loop-id-init g c = record {
  reference = refl;
  handle = refl;
  said = remove_none g.met.L.Link.since_itself c.args.db.now.handle c.args.ids.now;
  follows = loop_begins g.met.L.Link.heard_none c.args.db.now.linked.now.link (ap (removes_each c.args.db.now.handle) (left_all c.args.ids.now));
}

pub loop-id-preserved : goal.loop-id-preserved
loop-id-preserved g c =
    let before = c.loop-id.invariant in
    record {
      reference = cc;
      handle = cc;
      said = remove_on g.met.L.Link.since_more
          before.handle
          (split_at c.args.ids.now c.loop-id.id-index c.id-item.result c.loop-id-test.true c.id-item.is)
          (no_fault_said _ _ _ c.in_ok-remove.ensures.answer) before.said c.in_ok-remove.ensures.asked;
      follows = loop_on g.met.L.Link.heard_more _ (removes-next c.args.db.now.handle c.id-item.result
          (next_left c.args.ids.now c.loop-id.id-index c.id-item.result c.loop-id-test.true c.id-item.is))
          before.follows (rw before.handle at c.in_ok-remove.ensures.follows);
    }

pub returns-in_err-remove-clause-asks : goal.returns-in_err-remove-clause-asks
returns-in_err-remove-clause-asks g c =
    let p = err_from_is_err_and c.from_residual.result c.from_residual.ensures.1 in
    let before = c.loop-id.invariant in
    rw (p.1, p.2)
    (remove_stop g.met.L.Link.since_more
    _ before.handle
    (split_at c.args.ids.now c.loop-id.id-index c.id-item.result c.loop-id-test.true c.id-item.is) before.said c.in_err-remove.ensures.asked)

pub returns-clause-asks : goal.returns-clause-asks
returns-clause-asks g c =
    remove_done c.args.db.now.handle c.loop-id.id-index c.args.ids.now
    (omega arith) c.loop-id.invariant.said

pub returns-in_err-remove-clause-last : goal.returns-in_err-remove-clause-last
returns-in_err-remove-clause-last g c =
    let p = err_from_is_err_and c.from_residual.result c.from_residual.ensures.1 in
    rw (p.1, p.2) (last_removed _ c.in_err-remove.ensures.asked c.in_err-remove.ensures.answer)

pub returns-in_err-remove-clause-follows : goal.returns-in_err-remove-clause-follows
returns-in_err-remove-clause-follows g c =
    let p = err_from_is_err_and c.from_residual.result c.from_residual.ensures.1 in
    let before = c.loop-id.invariant in
    rw (p.1, p.2)
    (loop_stop g.met.L.Link.heard_more _ (removes-next c.args.db.now.handle c.id-item.result
    (next_left c.args.ids.now c.loop-id.id-index c.id-item.result c.loop-id-test.true c.id-item.is))
    before.follows (rw before.handle at c.in_err-remove.ensures.follows))

pub returns-clause-follows : goal.returns-clause-follows
returns-clause-follows g c =
    loop_done (removes-end c.args.db.now.handle (none_after c.args.ids.now c.loop-id.id-index (omega arith))) c.loop-id.invariant.follows
