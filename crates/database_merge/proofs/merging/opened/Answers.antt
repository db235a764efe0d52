use Rattle.handheld_files.proofs.SettledLaws.{settled_as_opened}
use Rattle.database_merge.proofs.merging.opened.Goals as goal

pub returns-in_ok-settle-in-Some-clause-settled : goal.returns-in_ok-settle-in-Some-clause-settled
returns-in_ok-settle-in-Some-clause-settled c = rw c.in_ok-settle-in-Some.ensures.settled (settled_as_opened c.in-Some.database)
