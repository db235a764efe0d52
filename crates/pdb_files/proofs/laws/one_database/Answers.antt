use Rattle.pdb_files.proofs.FileLaws.{one_database}
use Rattle.pdb_files.proofs.laws.one_database.Goals as goal

pub returns : goal.returns
returns c = one_database
