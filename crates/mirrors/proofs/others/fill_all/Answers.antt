-- The entries are filled one after the other.
use Rattle.std.proofs.Common.{◌≡◌, ◌∙◌, ◌++◌, ◌∷◌, [], length, ◌+◌, arith, refl, ap, sym, append_assoc, rules}
use Rattle.std.proofs.lemmas.List.{append-nil}
use Rattle.std.proofs.lemmas.Result.{err_from_is_err_and}
use Rattle.mirrors.proofs.FillLaws.{filled_all, filled_none, filled_on, filled_stop, none_left, shown_all}
use Rattle.mirrors.proofs.RisingLaws.{fills_all, fills_none, fills_on}
use Rattle.mirrors.proofs.PartFollows.{loop_begins, loop_done, loop_on, loop_stop}
use Rattle.mirrors.proofs.ReadFollows.{fills-begin, fills-end, fills-next}
use Rattle.mirrors.proofs.others.fill_all.Goals as goal

pub loop-entry-init : goal.loop-entry-init
loop-entry-init g c = record {
  reference = refl;
  handle = refl;
  count = search rules;
  all = c.into_iter-entry-iterator.ensures.into_iter_gives.0;
  fills = fills_none c.new-seen.ensures.items;
  follows = loop_begins g.met.L.Link.heard_none c.args.db.now.linked.now.link
      (fills-begin c.args.base.now c.args.db.now.handle c.into_iter-entry-iterator.ensures.into_iter_gives.0 c.new-seen.ensures.items);
  said = filled_none g.met.L.Link.since_itself
      c.new-seen.ensures.items;
}

pub loop-entry-preserved : goal.loop-entry-preserved
loop-entry-preserved g c =
    let before = c.loop-entry.invariant in
    let step : c.loop-entry.entry-iterator.rest.items ≡ c.in-Some.entry ∷ c.next.new.self.rest.items = search rules in
    record {
      reference = cc;
      handle = cc;
      count = let one : c.loop-entry.entry-iterator.rest.len ≡ c.next.new.self.rest.len + 1 = search rules in
          let all = ap length step in let whole = before.count in omega arith;
      all = cc (append_assoc c.loop-entry.yielded (c.in-Some.entry ∷ []) c.next.new.self.rest.items);
      fills = fills_on c.in-Some.entry before.fills c.in_ok-fill.ensures.adds;
      follows = loop_on g.met.L.Link.heard_more _ (fills-next c.args.base.now c.args.db.now.handle c.in-Some.entry c.loop-entry.seen.items step) before.follows
          (rw before.handle at c.in_ok-fill.ensures.follows);
      said = filled_on g.met.L.Link.since_more
          c.in-Some.entry
          before.handle before.said c.in_ok-fill.ensures.asks
          c.in_ok-fill.ensures.seen;
    }

pub returns-in_err-fill-clause-asks : goal.returns-in_err-fill-clause-asks
returns-in_err-fill-clause-asks g c =
    let p = err_from_is_err_and c.from_residual.result c.from_residual.ensures.1 in
    let before = c.loop-entry.invariant in
    let step : c.loop-entry.entry-iterator.rest.items ≡ c.in-Some.entry ∷ c.next.new.self.rest.items = search rules in
    let all : c.loop-entry.yielded ++ c.in-Some.entry ∷ c.next.new.self.rest.items ≡ c.args.entries.items =
    cc in
    rw (p.1, p.2)
    (filled_stop g.met.L.Link.since_more
    c.next.new.self.rest.items c.in-Some.entry
    _ before.handle all before.said c.in_err-fill.ensures.asks)

pub returns-clause-asks : goal.returns-clause-asks
returns-clause-asks g c =
    let none : c.loop-entry.entry-iterator.rest.items ≡ [] =
    none_left c.loop-entry.entry-iterator.rest.items (sym c.loop-entry.invariant.count ∙ c.in-None.ensures.steps.0) in
    let all : c.loop-entry.yielded ≡ c.args.entries.items =
    cc (append-nil c.loop-entry.yielded) in
    filled_all
    all c.loop-entry.invariant.said

pub returns-clause-seen : goal.returns-clause-seen
returns-clause-seen g c =
    let none : c.loop-entry.entry-iterator.rest.items ≡ [] =
    none_left c.loop-entry.entry-iterator.rest.items (sym c.loop-entry.invariant.count ∙ c.in-None.ensures.steps.0) in
    let all : c.loop-entry.yielded ≡ c.args.entries.items =
    cc (append-nil c.loop-entry.yielded) in
    shown_all
    all c.loop-entry.invariant.said

pub returns-clause-fills : goal.returns-clause-fills
returns-clause-fills g c =
    let none : c.loop-entry.entry-iterator.rest.items ≡ [] =
    none_left c.loop-entry.entry-iterator.rest.items (sym c.loop-entry.invariant.count ∙ c.in-None.ensures.steps.0) in
    let all : c.loop-entry.yielded ≡ c.args.entries.items =
    cc (append-nil c.loop-entry.yielded) in
    fills_all all c.loop-entry.invariant.fills

pub returns-in_err-fill-clause-follows : goal.returns-in_err-fill-clause-follows
returns-in_err-fill-clause-follows g c =
    let p = err_from_is_err_and c.from_residual.result c.from_residual.ensures.1 in
    let before = c.loop-entry.invariant in
    let step : c.loop-entry.entry-iterator.rest.items ≡ c.in-Some.entry ∷ c.next.new.self.rest.items = search rules in
    rw (p.1, p.2)
    (loop_stop g.met.L.Link.heard_more _ (fills-next c.args.base.now c.args.db.now.handle c.in-Some.entry c.loop-entry.seen.items step) before.follows
    (rw before.handle at c.in_err-fill.ensures.follows))

pub returns-clause-follows : goal.returns-clause-follows
returns-clause-follows g c =
    let none : c.loop-entry.entry-iterator.rest.items ≡ [] =
    none_left c.loop-entry.entry-iterator.rest.items (sym c.loop-entry.invariant.count ∙ c.in-None.ensures.steps.0) in
    loop_done (fills-end c.args.base.now c.args.db.now.handle c.loop-entry.seen.items none) c.loop-entry.invariant.follows
