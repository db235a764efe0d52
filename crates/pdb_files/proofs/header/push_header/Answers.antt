use Rattle.std.proofs.Common.{rules}
use Rattle.pdb_files.specs.Headers.{header_text}
use Rattle.pdb_files.proofs.WriteLaws.{fields_behind}
use Rattle.pdb_files.proofs.header.push_header.Goals as goal

pub returns-clause-text : goal.returns-clause-text
unfolding header_text
returns-clause-text c = search (rules, fields_behind)
