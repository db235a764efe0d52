-- New records grow by one.
use Rattle.std.proofs.Common.{◌≡◌, refl, sym, arith}
use Rattle.std.proofs.lemmas.Result.{err_from_is_err_and}
use Rattle.desktop_session.specs.Answers.{id_of}
use Rattle.mirrors.proofs.EntryLaws.{cause_by}
use Rattle.mirrors.proofs.NewsLaws.{new_none, new_on, new_part, new_stop, split_at}
use Rattle.desktop_session.proofs.LastLaws.{last_refused}
use Rattle.desktop_session.proofs.GreetLaws.{no_fault_said}
use Rattle.mirrors.proofs.PartFollows.{left_all, loop_begins, loop_done, loop_lost, loop_on, loop_stop, next_left, none_after}
use Rattle.mirrors.proofs.WriteFollows.{adds-begin, adds-end, adds-next}
use Rattle.mirrors.proofs.writing.add_all.Goals as goal

pub loop-content-init : goal.loop-content-init
loop-content-init g c = record {
  reference = refl;
  handle = refl;
  puts = new_none g.met.L.Link.since_itself c.args.contents.now
      c.new-ids.ensures.items;
  follows = loop_begins g.met.L.Link.heard_none c.args.db.now.linked.now.link
      (adds-begin c.args.db.now.handle (left_all c.args.contents.now) c.new-ids.ensures.items);
}

pub loop-content-preserved : goal.loop-content-preserved
loop-content-preserved g c =
    let before = c.loop-content.invariant in
    record {
      reference = cc;
      handle = cc;
      puts = new_on g.met.L.Link.since_more
          c.push.new.items.items before.handle c.new_id.ensures
          (split_at c.args.contents.now c.loop-content.content-index c.content-item.result c.loop-content-test.true c.content-item.is)
          (no_fault_said _ _ _ c.in_ok-id.ensures.answer) before.puts c.in_ok-id.ensures.puts c.in_ok-push.ensures.items;
      follows = rw c.in_ok-push.ensures.items
          (loop_on g.met.L.Link.heard_more _ (adds-next c.args.db.now.handle c.content-item.result c.loop-content.ids.items
          (next_left c.args.contents.now c.loop-content.content-index c.content-item.result c.loop-content-test.true c.content-item.is))
          before.follows (rw (before.handle, c.new_id.ensures) at c.in_ok-id.ensures.follows));
    }

pub returns-in_err-id-clause-puts : goal.returns-in_err-id-clause-puts
returns-in_err-id-clause-puts g c =
    let p = err_from_is_err_and c.from_residual.result c.from_residual.ensures.1 in
    let before = c.loop-content.invariant in
    rw (p.1, p.2)
    (new_stop g.met.L.Link.since_more
    (λ given ids. ids.items ≡ given)
    _ before.handle c.new_id.ensures
    (split_at c.args.contents.now c.loop-content.content-index c.content-item.result c.loop-content-test.true c.content-item.is) before.puts
    c.in_err-id.ensures.puts (cause_by 0x21 id_of _ _ (sym c.in_err-id.ensures.answer)))

pub returns-in_err-push-clause-puts : goal.returns-in_err-push-clause-puts
returns-in_err-push-clause-puts g c =
    let p = err_from_is_err_and c.from_residual-in_err-push.result c.from_residual-in_err-push.ensures.1 in
    let before = c.loop-content.invariant in
    let new = c.put.new.self.linked.now in
    let split = split_at c.args.contents.now c.loop-content.content-index c.content-item.result c.loop-content-test.true c.content-item.is in
    rw (p.1, p.2)
    (new_part
    (λ given ids. ids.items ≡ given) _ split
    (new_on g.met.L.Link.since_more
    _
    before.handle c.new_id.ensures split (no_fault_said _ _ _ c.in_ok-id.ensures.answer)
    before.puts c.in_ok-id.ensures.puts refl)
    (rw c.in_err-push.ensures.memory tt))

pub returns-in_err-id-clause-last : goal.returns-in_err-id-clause-last
returns-in_err-id-clause-last g c =
    let p = err_from_is_err_and c.from_residual.result c.from_residual.ensures.1 in
    rw (p.1, p.2) (last_refused id_of _ refl c.in_err-id.ensures.puts.asked c.in_err-id.ensures.answer)

pub returns-in_err-push-clause-last : goal.returns-in_err-push-clause-last
returns-in_err-push-clause-last g c =
    let p = err_from_is_err_and c.from_residual-in_err-push.result c.from_residual-in_err-push.ensures.1 in
    rw (p.1, p.2) (rw c.in_err-push.ensures.memory tt)

pub returns-in_err-id-clause-follows : goal.returns-in_err-id-clause-follows
returns-in_err-id-clause-follows g c =
    let p = err_from_is_err_and c.from_residual.result c.from_residual.ensures.1 in
    let before = c.loop-content.invariant in
    rw (p.1, p.2)
    (loop_stop g.met.L.Link.heard_more _ (adds-next c.args.db.now.handle c.content-item.result c.loop-content.ids.items
    (next_left c.args.contents.now c.loop-content.content-index c.content-item.result c.loop-content-test.true c.content-item.is))
    before.follows (rw (before.handle, c.new_id.ensures) at c.in_err-id.ensures.follows))

pub returns-in_err-push-clause-follows : goal.returns-in_err-push-clause-follows
returns-in_err-push-clause-follows g c =
    let p = err_from_is_err_and c.from_residual-in_err-push.result c.from_residual-in_err-push.ensures.1 in
    let before = c.loop-content.invariant in
    rw (p.1, p.2, c.in_err-push.ensures.memory)
    (loop_lost g.met.L.Link.heard_more _ (adds-next c.args.db.now.handle c.content-item.result c.loop-content.ids.items
    (next_left c.args.contents.now c.loop-content.content-index c.content-item.result c.loop-content-test.true c.content-item.is))
    before.follows (rw (before.handle, c.new_id.ensures) at c.in_ok-id.ensures.follows))

pub returns-clause-follows : goal.returns-clause-follows
returns-clause-follows g c =
    loop_done (adds-end c.args.db.now.handle c.loop-content.ids.items
    (none_after c.args.contents.now c.loop-content.content-index (omega arith))) c.loop-content.invariant.follows
