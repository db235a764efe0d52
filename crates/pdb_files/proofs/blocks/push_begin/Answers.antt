use Rattle.std.proofs.Common.{rules}
use Rattle.pdb_files.proofs.ReadLaws.{begin_some}
use Rattle.pdb_files.proofs.blocks.push_begin.Goals as goal

pub returns : goal.returns
returns c = search (rules, begin_some)
