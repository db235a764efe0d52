use Rattle.std.proofs.Common.{rules}
use Rattle.handheld_store.proofs.loan.Loan+F+LentDatabase.keep.Goals as goal

pub returns-clause-files : goal.returns-clause-files
returns-clause-files g c = rw (← c.into_database.ensures.database) (search rules)
