use Rattle.std.proofs.Common.{take}
use Rattle.std.specs.List.{AllByRecursion}
use Rattle.palm_device.specs.Bounds.{IsBoundedResource}
use Rattle.desk_store.proofs.bounds.see_resources.Given as goal

abbrev pub invariant-loop-resource : goal.invariant-loop-resource
invariant-loop-resource l = AllByRecursion IsBoundedResource (take l.resource-index l.resources)
