use Rattle.std.proofs.lemmas.Grind.{common_steps}
use Rattle.std.proofs.lemmas.List.Elements.{All-more}
use Rattle.std.proofs.Common.{arith, subst}
use Rattle.memo_texts.specs.Exports.{IsItem}
use Rattle.memo_texts.proofs.export.items_text.Goals as goal

pub loop-item-preserved : goal.loop-item-preserved
loop-item-preserved c = record {
  text = grind (arith, common_steps);
  memos =
      let item = c.item-item.result in
      let memo = subst (λ app. IsItem app c.args.privacy item) c.app.ensures.block c.in_ok-push_item.ensures.memo in
      All-more (IsItem c.args.database.now.app c.args.privacy) c.records-item-items.result.now c.loop-item.item-index item (omega arith)
      c.loop-item.invariant.memos (subst (IsItem c.args.database.now.app c.args.privacy) c.item-item.is memo);
}
