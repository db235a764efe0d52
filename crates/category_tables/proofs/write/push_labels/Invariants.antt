use Rattle.std.proofs.Common.{◌≡◌, ◌++◌, map, take}
use Rattle.std.specs.List.{flat_map}
use Rattle.category_tables.specs.Tables.{entry_value}
use Rattle.category_tables.specs.Texts.{label_text}
use Rattle.category_tables.proofs.write.push_labels.Given as goal

abbrev pub invariant-loop-entry : goal.invariant-loop-entry
invariant-loop-entry l = l.out.items ≡ l.fn.out.items ++ flat_map label_text (map entry_value (take l.entry-index l.entries))
