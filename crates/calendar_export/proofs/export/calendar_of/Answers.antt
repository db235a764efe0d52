use Rattle.std.proofs.lemmas.List.Elements.{All-more}
use Rattle.std.proofs.Common.{◌≡◌, ◌∙◌, ◌++◌, List, ap, append_assoc, arith, map, subst, sym, take, take_all}
use Rattle.std.specs.Prelude.{filter}
use Rattle.std.specs.List.{flat_map}
use Rattle.pdb_values.specs.Stems.{stem_of}
use Rattle.pdb_values.specs.declared.head.DbHead.{DbHead}
use Rattle.pdb_values.specs.declared.record.Record.{Record}
use Rattle.palm_records.specs.Choices.{is_exported}
use Rattle.content_lines.specs.Properties.{is_plain}
use Rattle.content_lines.proofs.ExportLaws.{exported-more}
use Rattle.calendar_export.specs.Components.{closing, opening}
use Rattle.calendar_export.specs.Exports.{IsSaid, added_properties, item_of, source_of}
use Rattle.calendar_export.specs.Items.{item_properties}
use Rattle.calendar_export.proofs.export.calendar_of.Goals as goal

pub push_item-requires : goal.push_item-requires
push_item-requires c = ap is_plain (c.as_str.ensures.value ∙ c.in_ok-stem.ensures.stem) ∙ c.plain_stem.ensures.plain

pub loop-item-preserved : goal.loop-item-preserved
loop-item-preserved c =
    let item = c.item-item.result in
    let database = c.args.database.now in
    let items = c.records-item-items.result.now in
    let index = c.loop-item.item-index in
    let source = source_of c.args.made database in
    let before = flat_map (item_properties source) (map (item_of c.args.kind database.app) (filter (is_exported c.args.privacy) (take index items))) in
    let added = added_properties source c.args.kind database.app c.args.privacy item in
    record {
      calendar =
          let stem : c.as_str.result.now ≡ stem_of database.head.name
          = c.as_str.ensures.value ∙ (c.in_ok-stem.ensures.stem ∙ ap (λ (head : DbHead). stem_of head.name) c.head.ensures.head) in
          c.in_ok-push_item.ensures.text
          ∙ ((λ i. c.loop-item.invariant.calendar i
          ++ added_properties (record { made = c.args.made; stem = stem i }) c.args.kind (c.app.ensures.block i) c.args.privacy item)
          ∙ (append_assoc opening before added
          ∙ ap (λ l. opening ++ l)
          (sym (exported-more (item_properties source) (item_of c.args.kind database.app) (is_exported c.args.privacy)
          items index item (omega arith) c.item-item.is))));
      items =
          let is = subst (λ app. IsSaid c.args.kind app c.args.privacy item) c.app.ensures.block c.in_ok-push_item.ensures.item in
          All-more (IsSaid c.args.kind database.app c.args.privacy) items index item (omega arith) c.loop-item.invariant.items
          (subst (IsSaid c.args.kind database.app c.args.privacy) c.item-item.is is);
    }

pub returns-clause-calendar : goal.returns-clause-calendar
returns-clause-calendar c =
    let database = c.args.database.now in
    let source = source_of c.args.made database in
    let said = λ (l : List Record). flat_map (item_properties source) (map (item_of c.args.kind database.app) (filter (is_exported c.args.privacy) l)) in
    let all = take_all c.loop-item.item-index c.records-item-items.result.now c.loop-item-test.false ∙ c.records-item-items.ensures.records in
    c.in_ok-push_plain.ensures
    ∙ (ap (λ l. l ++ closing) (c.loop-item.invariant.calendar ∙ ap (λ l. opening ++ said l) all) ∙ append_assoc opening (said database.records) closing)
