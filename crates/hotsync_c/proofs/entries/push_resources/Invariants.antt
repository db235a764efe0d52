use Rattle.std.proofs.Common.{◌≡◌, ◌++◌, drop, map, take}
use Rattle.std.specs.List.{concat}
use Rattle.pdb_files.specs.Entries.{resource_data}
use Rattle.hotsync_c.specs.Parts.{resource_entry}
use Rattle.hotsync_c.proofs.entries.push_resources.Given as goal

abbrev pub invariant-loop-resource : goal.invariant-loop-resource
invariant-loop-resource l = record {
  entries : l.packed.entries.items ≡ l.fn.packed.entries.items ++ map resource_entry (take l.resource-index l.resources);
  bytes : l.packed.bytes.items ++ concat (resource_data (drop l.resource-index l.resources)) ≡ l.fn.packed.bytes.items ++ concat (resource_data l.resources);
}
