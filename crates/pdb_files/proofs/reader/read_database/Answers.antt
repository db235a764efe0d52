use Rattle.std.proofs.Common.{rules}
use Rattle.pdb_files.proofs.ReadLaws.{is_found, only_it}
use Rattle.pdb_files.proofs.reader.read_database.Goals as goal

pub returns-clause-found : goal.returns-clause-found
returns-clause-found c = search (rules, is_found)

pub returns-clause-only : goal.returns-clause-only
returns-clause-only c = only_it c.args.bytes.now c.read.result c.read.ensures
