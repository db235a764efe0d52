use Rattle.std.proofs.Common.{◌≡◌, ◌≤◌}
use Rattle.category_mirror.specs.Refiled.{used_below}
use Rattle.category_mirror.proofs.merge.Merge.used_count.Given as goal

abbrev pub invariant-loop-number : goal.invariant-loop-number
invariant-loop-number l = record {
  count : l.count ≡ used_below l.self.table l.number;
  few : l.count ≤ l.number;
}
