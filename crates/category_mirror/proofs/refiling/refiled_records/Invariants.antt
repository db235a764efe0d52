use Rattle.std.proofs.Common.{◌≡◌, map, take}
use Rattle.category_mirror.specs.Refiled.{refiled_record}
use Rattle.category_mirror.proofs.refiling.refiled_records.Given as goal

abbrev pub invariant-loop-item : goal.invariant-loop-item
invariant-loop-item l = l.copies.items ≡ map (refiled_record l.merge.numbers) (take l.item-index l.records)
