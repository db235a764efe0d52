use Rattle.std.proofs.Common.{◌≡◌, ℕ, ◌<◌, get_or, length}
use Rattle.category_tables.specs.Tables.{entry_value}
use Rattle.category_tables.specs.Texts.{entry_in}
use Rattle.category_tables.specs.declared.table.Entry.{Entry}
use Rattle.category_tables.proofs.read.table_in.Given as goal

abbrev pub invariant-loop-number : goal.invariant-loop-number
invariant-loop-number l = record {
  whole : length l.entries ≡ 16;
  each : (k : ℕ) (d : Entry) → k < l.number → entry_value (get_or l.entries k d) ≡ entry_in l.bytes k;
}
