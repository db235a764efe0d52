use Rattle.std.proofs.Common.{◌≡◌, ◌++◌, drop, map, take}
use Rattle.std.specs.List.{concat}
use Rattle.pdb_files.specs.Entries.{record_data}
use Rattle.hotsync_c.specs.Parts.{record_entry}
use Rattle.hotsync_c.proofs.entries.push_records.Given as goal

abbrev pub invariant-loop-item : goal.invariant-loop-item
invariant-loop-item l = record {
  entries : l.packed.entries.items ≡ l.fn.packed.entries.items ++ map record_entry (take l.item-index l.records);
  bytes : l.packed.bytes.items ++ concat (record_data (drop l.item-index l.records)) ≡ l.fn.packed.bytes.items ++ concat (record_data l.records);
}
