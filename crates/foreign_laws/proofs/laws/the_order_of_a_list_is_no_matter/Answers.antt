use Rattle.foreign_laws.proofs.JobTwins.{heads_give_the_same}
use Rattle.foreign_laws.proofs.laws.the_order_of_a_list_is_no_matter.Goals as goal

pub returns : goal.returns
returns c = heads_give_the_same
