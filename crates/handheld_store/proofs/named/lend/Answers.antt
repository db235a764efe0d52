use Rattle.std.proofs.Common.{rules}
use Rattle.handheld_store.proofs.KeptLaws.{settled_database}
use Rattle.handheld_store.proofs.named.lend.Goals as goal

pub returns-clause-settled : goal.returns-clause-settled
returns-clause-settled c = search (rules, settled_database)
