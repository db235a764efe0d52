use Rattle.std.proofs.Common.{◌≡◌, ℕ, ◌<◌, ◌≤◌, true}
use Rattle.category_tables.specs.Likes.{stands}
use Rattle.category_tables.specs.Makings.{merging_value}
use Rattle.category_tables.specs.Tables.{table_value}
use Rattle.category_tables.proofs.liking.all_stand.Given as goal

abbrev pub invariant-loop-number : goal.invariant-loop-number
invariant-loop-number l =
    (k : ℕ) → 1 ≤ k → k < l.number → stands (table_value l.made) (merging_value l.merging) k ≡ true
