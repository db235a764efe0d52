use Rattle.std.proofs.Common.{◌≡◌, ◌∙◌, IfOk, ap, map, subst}
use Rattle.std.proofs.lemmas.List.{take_all}
use Rattle.conduit_rules.specs.Views.{slow_seen}
use Rattle.mirrors.specs.Entries.{AreBounded, ordered}
use Rattle.database_merge.proofs.SeenLaws.{bounded_more, bounded_seen, if_ok_any, seen_more}
use Rattle.database_merge.proofs.seeing.slow_view.Goals as goal
use Rattle.mirrors.proofs.ShownLaws.{ordered-slow}

pub loop-item-preserved : goal.loop-item-preserved
loop-item-preserved c =
    let pushed = bounded_more c.loop-item.seen.items c.in_ok-seen_of.field-0 c.loop-item.invariant.bounded c.in_ok-seen_of.ensures.bounded in
    record {
      seen = seen_more c.args.records.now c.loop-item.item-index c.item-item.result c.loop-item.seen.items c.push.new.self.items c.in_ok-seen_of.field-0
          c.loop-item-test.true c.item-item.is c.in_ok-seen_of.ensures.seen c.in_ok-push.ensures.items c.loop-item.invariant.seen;
      bounded = rw c.in_ok-push.ensures.items pushed;
    }

pub returns-clause-view : goal.returns-clause-view
returns-clause-view c =
    let records = c.args.records.now in
    let all = ap (map slow_seen) (take_all c.loop-item.item-index records c.loop-item-test.false) in
    subst (λ xs. IfOk c.in_order.result (λ view. view.seen.items ≡ xs)) (ap ordered (c.loop-item.invariant.seen ∙ all) ∙ ordered-slow records)
    c.in_order.ensures.ordered

pub returns-clause-bounded : goal.returns-clause-bounded
returns-clause-bounded c =
    let records = c.args.records.now in
    let all = ap (map slow_seen) (take_all c.loop-item.item-index records c.loop-item-test.false) in
    if_ok_any c.in_order.result (bounded_seen records (subst AreBounded (c.loop-item.invariant.seen ∙ all) c.loop-item.invariant.bounded))
