use Rattle.std.proofs.Common.{◌≡◌, ◌-◌, []}
use Rattle.desk_journal.specs.Entries.{entry_values}
use Rattle.desk_journal.specs.Reading.{entries_at}
use Rattle.desk_journal.proofs.entry_reader.read_entries.Given as goal

abbrev pub invariant-loop : goal.invariant-loop
invariant-loop l = entries_at (l.count - l.counter) (entry_values l.entries.items) l.rest ≡ entries_at l.count [] l.bytes
