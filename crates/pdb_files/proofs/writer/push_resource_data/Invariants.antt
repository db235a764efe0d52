use Rattle.std.proofs.Common.{◌≡◌, ◌++◌, drop}
use Rattle.std.specs.List.{concat}
use Rattle.pdb_files.specs.Entries.{resource_data}
use Rattle.pdb_files.proofs.writer.push_resource_data.Given as goal

abbrev pub invariant-loop-resource : goal.invariant-loop-resource
invariant-loop-resource l =
    l.out.items ++ concat (resource_data (drop l.resource-index l.resources)) ≡ l.initial.out.items ++ concat (resource_data l.resources)
