use Rattle.std.proofs.Common.{◌≡◌, ◌++◌, drop}
use Rattle.std.specs.List.{concat}
use Rattle.pdb_files.specs.Entries.{record_data}
use Rattle.pdb_files.proofs.writer.push_record_data.Given as goal

abbrev pub invariant-loop-item : goal.invariant-loop-item
invariant-loop-item l = l.out.items ++ concat (record_data (drop l.item-index l.records)) ≡ l.initial.out.items ++ concat (record_data l.records)
