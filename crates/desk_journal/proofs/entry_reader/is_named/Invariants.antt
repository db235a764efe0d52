use Rattle.std.proofs.Common.{◌≡◌, false, take}
use Rattle.desk_journal.specs.Entries.{entry_values, is_named}
use Rattle.desk_journal.proofs.entry_reader.is_named.Given as goal

abbrev pub invariant-loop-entry : goal.invariant-loop-entry
invariant-loop-entry l = is_named (entry_values (take l.entry-index l.entries)) l.name ≡ false
