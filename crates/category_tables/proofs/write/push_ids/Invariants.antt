use Rattle.std.proofs.Common.{◌≡◌, ◌++◌, map, take}
use Rattle.category_tables.specs.Tables.{entry_value}
use Rattle.category_tables.specs.Texts.{id_of}
use Rattle.category_tables.proofs.write.push_ids.Given as goal

abbrev pub invariant-loop-entry : goal.invariant-loop-entry
invariant-loop-entry l = l.out.items ≡ l.fn.out.items ++ map id_of (map entry_value (take l.entry-index l.entries))
