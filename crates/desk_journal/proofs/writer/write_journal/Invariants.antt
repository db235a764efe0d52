use Rattle.std.proofs.Common.{◌≡◌, ◌++◌, length, take}
use Rattle.std.specs.Int.{w16, to_be_bytes}
use Rattle.std.specs.List.{flat_map}
use Rattle.desk_journal.specs.Entries.{entry_text, entry_values, mark}
use Rattle.desk_journal.proofs.writer.write_journal.Given as goal

abbrev pub invariant-loop-entry : goal.invariant-loop-entry
invariant-loop-entry l = l.bytes.items ≡ mark ++ (to_be_bytes w16 (length (entry_values l.entries)) ++ flat_map entry_text
    (take l.entry-index (entry_values l.entries)))
