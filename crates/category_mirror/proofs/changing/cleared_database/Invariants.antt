use Rattle.std.proofs.Common.{◌≡◌, map, take}
use Rattle.category_mirror.specs.Changes.{cleared_record}
use Rattle.category_mirror.proofs.changing.cleared_database.Given as goal

abbrev pub invariant-loop-item : goal.invariant-loop-item
invariant-loop-item l = l.records.items ≡ map cleared_record (take l.item-index l.item-items)
