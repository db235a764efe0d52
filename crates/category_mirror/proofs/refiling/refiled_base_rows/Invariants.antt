use Rattle.std.proofs.Common.{◌≡◌, map, take}
use Rattle.category_mirror.specs.Refiled.{refiled_base_row}
use Rattle.category_mirror.proofs.refiling.refiled_base_rows.Given as goal

abbrev pub invariant-loop-item : goal.invariant-loop-item
invariant-loop-item l = l.copies.items ≡ map (refiled_base_row l.merge.numbers) (take l.item-index l.records)
