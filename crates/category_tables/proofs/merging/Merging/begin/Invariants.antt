use Rattle.std.proofs.Common.{◌≡◌, ℕ, ◌<◌, get_or, length, map}
use Rattle.category_tables.specs.Tables.{entry_value}
use Rattle.category_tables.specs.Merges.{kept_at}
use Rattle.category_tables.specs.declared.table.Entry.{Entry}
use Rattle.category_tables.proofs.merging.Merging.begin.Given as goal

abbrev pub invariant-loop-number : goal.invariant-loop-number
invariant-loop-number l = record {
  whole : length l.entries ≡ 16;
  each : (k : ℕ) (d : Entry) → k < l.number → entry_value (get_or l.entries k d) ≡ kept_at (map entry_value l.handheld.entries) k;
}
