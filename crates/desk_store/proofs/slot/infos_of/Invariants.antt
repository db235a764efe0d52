use Rattle.std.proofs.Common.{◌≡◌, take}
use Rattle.desk_store.specs.Shelves.{infos_of}
use Rattle.desk_store.proofs.slot.infos_of.Given as goal

abbrev pub invariant-loop-slot : goal.invariant-loop-slot
invariant-loop-slot l = l.infos.items ≡ infos_of (take l.slot-index l.slots)
