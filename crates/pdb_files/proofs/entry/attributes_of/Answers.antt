use Rattle.std.proofs.Common.{rules}
use Rattle.pdb_files.proofs.BitLaws.{attributes_by_bits}
use Rattle.pdb_files.proofs.entry.attributes_of.Goals as goal

pub returns-clause-bits : goal.returns-clause-bits
returns-clause-bits c = search (rules, attributes_by_bits)
