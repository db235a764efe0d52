use Rattle.foreign_laws.proofs.DeviceLists.{own_lists}
use Rattle.foreign_laws.proofs.laws.our_own_list_has_them_in_order.Goals as goal

pub returns : goal.returns
returns c = own_lists
