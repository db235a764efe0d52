use Rattle.foreign_laws.proofs.ListTwins.{lists_each}
use Rattle.foreign_laws.proofs.laws.a_list_has_each_database_once.Goals as goal

pub returns : goal.returns
returns c = lists_each
