use Rattle.std.proofs.Common.{◌≡◌, take}
use Rattle.std.specs.List.{AllByRecursion, flat_map}
use Rattle.desk_journal.specs.Entries.{entry_values}
use Rattle.desk_store.specs.Changes.{IsDbWritten, db_entries}
use Rattle.desk_store.proofs.entries.database_entries.Given as goal

abbrev pub invariant-loop-database : goal.invariant-loop-database
invariant-loop-database l = record {
  entries : entry_values l.entries.items ≡ flat_map (db_entries l.slot) (take l.database-index l.databases);
  written : AllByRecursion IsDbWritten (take l.database-index l.databases);
}
