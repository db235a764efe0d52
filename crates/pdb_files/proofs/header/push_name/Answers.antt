use Rattle.std.proofs.Common.{append_assoc, rules}
use Rattle.pdb_files.proofs.WriteLaws.{zeros_left}
use Rattle.pdb_files.proofs.header.push_name.Goals as goal

pub returns-clause-text : goal.returns-clause-text
returns-clause-text c = search (rules, append_assoc, zeros_left)
