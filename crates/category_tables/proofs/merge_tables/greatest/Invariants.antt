use Rattle.std.proofs.Common.{◌≡◌, drop, map}
use Rattle.category_tables.specs.Tables.{entry_value}
use Rattle.category_tables.specs.Merges.{greatest}
use Rattle.category_tables.proofs.merge_tables.greatest.Given as goal

abbrev pub invariant-loop-entry : goal.invariant-loop-entry
invariant-loop-entry l =
    greatest l.last (map entry_value (drop l.entry-index l.entries)) ≡ greatest l.fn.last (map entry_value l.entries)
