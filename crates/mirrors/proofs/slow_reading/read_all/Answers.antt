-- A reading grows by one record.
use Rattle.std.proofs.Common.{◌+◌, ◌≤◌, ◌<◌, refl, arith}
use Rattle.std.proofs.lemmas.List.Elements.{All-nil, All-push}
use Rattle.std.proofs.lemmas.Result.{err_from_is_err_and}
use Rattle.conduit_rules.specs.ById.{id_bound}
use Rattle.conduit_rules.specs.declared.view.Seen.{Seen}
use Rattle.mirrors.proofs.ReadLaws.{read_none, read_on, read_part, read_stop, seen_begin, seen_grows}
use Rattle.mirrors.proofs.PartFollows.{loop_begins, loop_done, loop_lost, loop_on, loop_stop}
use Rattle.mirrors.proofs.ReadFollows.{from-begin, from-end, from-next}
use Rattle.mirrors.proofs.slow_reading.read_all.Goals as goal

pub loop-index-init : goal.loop-index-init
loop-index-init g c = record {
  reference = refl;
  handle = refl;
  said = read_none g.met.L.Link.since_itself c.args.db.now.handle;
  seen = seen_begin (g.L.Link.talk c.args.db.now.linked.now.link) c.args.db.now.handle c.new-seen.ensures.items;
  bounded = rw c.new-seen.ensures.items (All-nil (λ (s : Seen). s.id < id_bound));
  follows = loop_begins g.met.L.Link.heard_none c.args.db.now.linked.now.link (from-begin c.args.db.now.handle c.args.count c.new-seen.ensures.items);
}

pub loop-index-preserved : goal.loop-index-preserved
loop-index-preserved g c =
    let before = c.loop-index.invariant in
    let old = c.args.db.now.linked.now in
    let here = c.loop-index.db.linked.now in
    let new = c.read_at.new.db.linked.now in
    let handle = c.args.db.now.handle in
    let k = c.loop-index.index in
    record {
      reference = cc;
      handle = cc;
      said = read_on g.met.L.Link.since_more k
          before.handle c.in_ok-entry.ensures.none before.said c.in_ok-entry.ensures.asked;
      seen = seen_grows (g.L.Link.talk old.link) k c.loop-index.seen.items
          new.reply before.handle before.said.does.said (c.in_ok-entry.ensures.asked.told c.in_ok-entry.ensures.none)
          c.in_ok-entry.ensures.seen before.seen c.in_ok-push.ensures.items;
      bounded = rw c.in_ok-push.ensures.items (All-push (λ (s : Seen). s.id < id_bound) c.loop-index.seen.items c.in_ok-entry.entry before.bounded
          c.in_ok-entry.ensures.bounded);
      follows = rw c.in_ok-push.ensures.items
          (loop_on g.met.L.Link.heard_more _ (from-next c.args.db.now.handle c.loop-index.index c.args.count c.loop-index.seen.items (omega arith)) before.follows
          (rw before.handle at c.in_ok-entry.ensures.follows));
    }

pub returns-in_err-entry-clause-asks : goal.returns-in_err-entry-clause-asks
returns-in_err-entry-clause-asks g c =
    let p = err_from_is_err_and c.from_residual.result c.from_residual.ensures.1 in
    let before = c.loop-index.invariant in
    rw (p.1, p.2)
    (read_stop g.met.L.Link.since_more
    c.loop-index.index c.args.count _ before.handle (omega arith)
    before.said c.in_err-entry.ensures.asked)

pub returns-in_err-push-clause-asks : goal.returns-in_err-push-clause-asks
returns-in_err-push-clause-asks g c =
    let p = err_from_is_err_and c.from_residual-in_err-push.result c.from_residual-in_err-push.ensures.1 in
    let before = c.loop-index.invariant in
    let within : c.loop-index.index + 1 ≤ c.args.count = omega arith in
    rw (p.1, p.2)
    (read_part c.args.db.now.handle (c.loop-index.index + 1) c.args.count
    _ within
    (read_on g.met.L.Link.since_more
    c.loop-index.index before.handle c.in_ok-entry.ensures.none
    before.said c.in_ok-entry.ensures.asked))

pub returns-in_err-entry-clause-last : goal.returns-in_err-entry-clause-last
returns-in_err-entry-clause-last g c =
    let p = err_from_is_err_and c.from_residual.result c.from_residual.ensures.1 in
    rw (p.1, p.2) c.in_err-entry.ensures.last

pub returns-in_err-push-clause-last : goal.returns-in_err-push-clause-last
returns-in_err-push-clause-last g c =
    let p = err_from_is_err_and c.from_residual-in_err-push.result c.from_residual-in_err-push.ensures.1 in
    rw (p.1, p.2) (rw c.in_err-push.ensures.memory tt)

pub returns-in_err-entry-clause-follows : goal.returns-in_err-entry-clause-follows
returns-in_err-entry-clause-follows g c =
    let p = err_from_is_err_and c.from_residual.result c.from_residual.ensures.1 in
    let before = c.loop-index.invariant in
    rw (p.1, p.2)
    (loop_stop g.met.L.Link.heard_more _ (from-next c.args.db.now.handle c.loop-index.index c.args.count c.loop-index.seen.items (omega arith)) before.follows
    (rw before.handle at c.in_err-entry.ensures.follows))

pub returns-in_err-push-clause-follows : goal.returns-in_err-push-clause-follows
returns-in_err-push-clause-follows g c =
    let p = err_from_is_err_and c.from_residual-in_err-push.result c.from_residual-in_err-push.ensures.1 in
    let before = c.loop-index.invariant in
    rw (p.1, p.2, c.in_err-push.ensures.memory)
    (loop_lost g.met.L.Link.heard_more _ (from-next c.args.db.now.handle c.loop-index.index c.args.count c.loop-index.seen.items (omega arith)) before.follows
    (rw before.handle at c.in_ok-entry.ensures.follows))

pub returns-clause-follows : goal.returns-clause-follows
returns-clause-follows g c =
    loop_done (from-end c.args.db.now.handle c.loop-index.index c.args.count c.loop-index.seen.items (omega arith)) c.loop-index.invariant.follows
