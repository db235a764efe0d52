use Rattle.std.proofs.Common.{◌≡◌, ◌+◌, ◌*◌, ◌≤◌, ◌++◌, drop, length, take}
use Rattle.std.specs.List.{AllByRecursion, concat}
use Rattle.pdb_files.specs.Blocks.{begins_from}
use Rattle.pdb_files.specs.Entries.{resource_data, resource_entries}
use Rattle.pdb_files.specs.Files.{FitsResource}
use Rattle.pdb_files.proofs.writer.push_resource_entries.Given as goal

abbrev pub invariant-loop-resource : goal.invariant-loop-resource
invariant-loop-resource l = record {
  written : l.out.items ++ resource_entries (begins_from l.begin (resource_data (drop l.resource-index l.resources))) (drop l.resource-index l.resources)
      ≡ l.initial.out.items ++ resource_entries (begins_from l.initial.begin (resource_data l.resources)) l.resources;
  end : l.begin + length (concat (resource_data (drop l.resource-index l.resources))) ≡ l.initial.begin + length (concat (resource_data l.resources));
  place : l.begin ≤ l.initial.begin + 65500 * l.resource-index;
  fits : AllByRecursion FitsResource (take l.resource-index l.resources);
  short : AllByRecursion (λ item. length item.bytes ≤ 65500) (take l.resource-index l.resources);
}
