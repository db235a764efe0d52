use Rattle.std.proofs.Common.{take}
use Rattle.std.specs.List.{AllByRecursion}
use Rattle.palm_device.specs.Bounds.{IsBoundedRecord}
use Rattle.desk_store.proofs.bounds.see_records.Given as goal

abbrev pub invariant-loop-item : goal.invariant-loop-item
invariant-loop-item l = AllByRecursion IsBoundedRecord (take l.item-index l.records)
