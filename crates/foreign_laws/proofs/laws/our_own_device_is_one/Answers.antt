use Rattle.foreign_laws.proofs.OwnLaws.{own_step_is}
use Rattle.foreign_laws.proofs.laws.our_own_device_is_one.Goals as goal

pub returns : goal.returns
returns c = own_step_is
