use Rattle.std.proofs.Common.{arith, ◌∙◌, ◌++◌, ap}
use Rattle.std.specs.Prelude.{codes}
use Rattle.memo_texts.specs.Databases.{label_field}
use Rattle.memo_texts.proofs.BlockLaws.{fields-all, fields-take}
use Rattle.memo_texts.proofs.app_block.push_fields.Goals as goal

pub loop-label-preserved : goal.loop-label-preserved
loop-label-preserved c =
    let label = c.label-item.result in
    let before = c.loop-label.block.items in
    let grown = c.in_ok-push_field-2.ensures.field ∙ ap (λ l. before ++ label_field l) c.as_slice.ensures.bytes in
    record {
      fields = fields-take c.args.block.now.items before _ (codes "Unfiled") c.args.labels.now c.loop-label.label-index label (omega arith) c.label-item.is c.loop-label.invariant.fields grown;
      length = omega (arith, c.in_ok-push_field-2.ensures.length, c.loop-label.invariant.length);
    }

pub returns-clause-fields : goal.returns-clause-fields
returns-clause-fields c =
    let before = c.loop-label.block.items in
    fields-all c.args.block.now.items before _ (codes "Unfiled") c.args.labels.now c.loop-label.label-index _ (omega arith) c.requires.few (omega (arith, c.loop-label.block.ok)) c.loop-label.invariant.length
    c.loop-label.invariant.fields c.in_ok-resize.ensures.items
