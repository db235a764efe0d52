use Rattle.std.proofs.Common.{◌≡◌, ◌-◌, ◌^◌, take}
use Rattle.std.specs.Prelude.{min}
use Rattle.desk_store.specs.Desks.{all_rows}
use Rattle.desk_store.proofs.desk.count_rows.Given as goal

abbrev pub invariant-loop-slot : goal.invariant-loop-slot
invariant-loop-slot l = l.count ≡ min (all_rows (take l.slot-index l.slots)) (2 ^ 64 - 1)
