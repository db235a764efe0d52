use Rattle.std.proofs.lemmas.List.Elements.{All-more}
use Rattle.std.proofs.Common.{◌≡◌, ◌∙◌, ◌++◌, ap, arith, subst, sym}
use Rattle.pdb_values.specs.Stems.{stem_of}
use Rattle.pdb_values.specs.declared.head.DbHead.{DbHead}
use Rattle.palm_records.specs.Choices.{is_exported}
use Rattle.content_lines.specs.Properties.{is_plain}
use Rattle.content_lines.proofs.ExportLaws.{exported-more}
use Rattle.card_export.specs.Exports.{IsItem, card_of, item_properties}
use Rattle.card_export.specs.Properties.{card_properties}
use Rattle.card_export.proofs.export.cards_of.Goals as goal

pub push_item-requires : goal.push_item-requires
push_item-requires c = ap is_plain (c.as_str.ensures.value ∙ c.in_ok-stem.ensures.stem) ∙ c.plain_stem.ensures.plain

pub loop-item-preserved : goal.loop-item-preserved
loop-item-preserved c =
    let item = c.item-item.result in
    let database = c.args.database.now in
    record {
      cards =
          let stem : c.as_str.result.now ≡ stem_of database.head.name
          = c.as_str.ensures.value ∙ (c.in_ok-stem.ensures.stem ∙ ap (λ (head : DbHead). stem_of head.name) c.head.ensures.head) in
          c.in_ok-push_item.ensures.card
          ∙ (λ i. c.loop-item.invariant.cards i ++ item_properties (stem i) (c.app.ensures.block i) c.args.privacy item)
          ∙ sym (exported-more card_properties (card_of (stem_of database.head.name) database.app) (is_exported c.args.privacy) c.records-item-items.result.now
          c.loop-item.item-index item (omega arith) c.item-item.is);
      stored =
          let stored = subst (λ app. IsItem app c.args.privacy item) c.app.ensures.block c.in_ok-push_item.ensures.stored in
          All-more (IsItem database.app c.args.privacy) c.records-item-items.result.now c.loop-item.item-index item (omega arith) c.loop-item.invariant.stored
          (subst (IsItem database.app c.args.privacy) c.item-item.is stored);
    }
