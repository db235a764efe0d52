use Rattle.std.proofs.Common.{◌∙◌, ◌++◌, List, append_assoc, ap, arith, map, sym, take, take_all}
use Rattle.std.specs.Prelude.{filter}
use Rattle.pdb_values.specs.declared.record.Record.{Record}
use Rattle.palm_records.specs.Choices.{is_exported}
use Rattle.content_lines.proofs.ExportLaws.{exported-more}
use Rattle.card_export.specs.Exports.{text_of}
use Rattle.table_export.specs.Exports.{head_row, item_row, item_text}
use Rattle.table_export.specs.Tables.{line_of, table_text}
use Rattle.table_export.proofs.export.table_text.Goals as goal

pub loop-item-preserved : goal.loop-item-preserved
loop-item-preserved c =
    let kind = c.args.kind in
    let marks = c.args.marks in
    let app = c.args.database.now.app in
    let wanted = c.args.privacy in
    let items = c.records-item-items.result.now in
    let index = c.loop-item.item-index in
    let item = c.item-item.result in
    let head = line_of marks (head_row kind (text_of app)) in
    let before = table_text marks (map (item_row kind app) (filter (is_exported wanted) (take index items))) in
    c.in_ok-push_item.ensures
    ∙ ((λ i. c.loop-item.invariant i ++ item_text marks kind (c.app-in-loop-item.ensures.block i) wanted item)
    ∙ (append_assoc head before (item_text marks kind app wanted item)
    ∙ ap (λ l. head ++ l) (sym (exported-more (line_of marks) (item_row kind app) (is_exported wanted) items index item (omega arith) c.item-item.is))))

pub returns : goal.returns
returns c =
    let kind = c.args.kind in
    let marks = c.args.marks in
    let app = c.args.database.now.app in
    let head = line_of marks (head_row kind (text_of app)) in
    let all = take_all c.loop-item.item-index c.records-item-items.result.now c.loop-item-test.false ∙ c.records-item-items.ensures.records in
    c.loop-item.invariant ∙ ap (λ (l : List Record). head ++ table_text marks (map (item_row kind app) (filter (is_exported c.args.privacy) l))) all
