-- One resource after the other.
use Rattle.palm_device.specs.Bounds.{IsBoundedResource}
use Rattle.desk_store.proofs.BoundLaws.{each_taken}
use Rattle.desk_store.proofs.bounds.see_resources.Goals as goal
use Rattle.pdb_files.proofs.WriteLaws.{all_of_more}

pub loop-resource-preserved : goal.loop-resource-preserved
loop-resource-preserved c =
    all_of_more IsBoundedResource c.args.resources.now c.loop-resource.resource-index c.loop-resource-test.true c.resource-item.is c.loop-resource.invariant
    c.see_resource.ensures

pub returns : goal.returns
returns c = each_taken IsBoundedResource c.args.resources.now c.loop-resource.resource-index c.loop-resource-test.false c.loop-resource.invariant
