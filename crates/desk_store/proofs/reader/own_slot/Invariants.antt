use Rattle.std.proofs.Common.{◌≡◌, None}
use Rattle.desk_store.specs.DeskFiles.{own_slot}
use Rattle.desk_store.proofs.reader.own_slot.Given as goal

abbrev pub invariant-loop-slot : goal.invariant-loop-slot
invariant-loop-slot l = own_slot l.slot l.role l.name l.database ≡ None
