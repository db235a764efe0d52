-- One record after the other.
use Rattle.palm_device.specs.Bounds.{IsBoundedRecord}
use Rattle.desk_store.proofs.BoundLaws.{each_taken}
use Rattle.desk_store.proofs.bounds.see_records.Goals as goal
use Rattle.pdb_files.proofs.WriteLaws.{all_of_more}

pub loop-item-preserved : goal.loop-item-preserved
loop-item-preserved c =
    all_of_more IsBoundedRecord c.args.records.now c.loop-item.item-index c.loop-item-test.true c.item-item.is c.loop-item.invariant c.see_record.ensures

pub returns : goal.returns
returns c = each_taken IsBoundedRecord c.args.records.now c.loop-item.item-index c.loop-item-test.false c.loop-item.invariant
