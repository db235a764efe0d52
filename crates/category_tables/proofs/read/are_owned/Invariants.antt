use Rattle.std.proofs.Common.{◌≡◌, ℕ, ◌<◌, ◌≤◌, true}
use Rattle.category_tables.specs.Owned.{is_owned}
use Rattle.category_tables.specs.Tables.{is_used, table_value}
use Rattle.category_tables.proofs.read.are_owned.Given as goal

abbrev pub invariant-loop-number : goal.invariant-loop-number
invariant-loop-number l =
    (k : ℕ) → 1 ≤ k → k < l.number → is_used (table_value l.table).entries k ≡ true → is_owned (table_value l.table) k ≡ true
