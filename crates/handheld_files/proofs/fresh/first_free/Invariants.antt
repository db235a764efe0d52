use Rattle.std.proofs.Common.{◌≡◌, ℕ, ◌<◌, ◌≤◌, true}
use Rattle.std.specs.BTreeSet.{contains}
use Rattle.std.specs.Ordering.{nat_cmp}
use Rattle.handheld_files.proofs.fresh.first_free.Given as goal

abbrev pub invariant-loop-number : goal.invariant-loop-number
invariant-loop-number l = (k : ℕ) → l.next ≤ k → k < l.number-counter → contains nat_cmp l.numbers k ≡ true
