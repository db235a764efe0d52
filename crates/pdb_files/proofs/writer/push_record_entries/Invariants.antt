use Rattle.std.proofs.Common.{◌≡◌, ◌+◌, ◌*◌, ◌≤◌, ◌++◌, drop, length, take}
use Rattle.std.specs.List.{AllByRecursion, concat}
use Rattle.pdb_files.specs.Blocks.{begins_from}
use Rattle.pdb_files.specs.Entries.{record_data, record_entries}
use Rattle.pdb_files.specs.Files.{FitsRecord}
use Rattle.pdb_files.proofs.writer.push_record_entries.Given as goal

abbrev pub invariant-loop-item : goal.invariant-loop-item
invariant-loop-item l = record {
  written : l.out.items ++ record_entries (begins_from l.begin (record_data (drop l.item-index l.records))) (drop l.item-index l.records)
      ≡ l.initial.out.items ++ record_entries (begins_from l.initial.begin (record_data l.records)) l.records;
  end : l.begin + length (concat (record_data (drop l.item-index l.records))) ≡ l.initial.begin + length (concat (record_data l.records));
  place : l.begin ≤ l.initial.begin + 65500 * l.item-index;
  fits : AllByRecursion FitsRecord (take l.item-index l.records);
  short : AllByRecursion (λ item. length item.content.bytes ≤ 65500) (take l.item-index l.records);
}
