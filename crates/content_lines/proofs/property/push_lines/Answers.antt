use Rattle.std.proofs.Common.{arith}
use Rattle.content_lines.proofs.PropertyLaws.{properties_text-more}
use Rattle.content_lines.proofs.property.push_lines.Goals as goal

pub loop-property-preserved : goal.loop-property-preserved
loop-property-preserved c =
    properties_text-more _ _ _ c.args.list.now c.loop-property.property-index c.property-item.result (omega arith) c.property-item.is c.loop-property.invariant
    c.in_ok-push_to.ensures
