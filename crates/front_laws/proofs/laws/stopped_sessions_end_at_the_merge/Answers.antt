use Rattle.front_laws.proofs.ManyLaws.{all-merged}
use Rattle.front_laws.proofs.laws.stopped_sessions_end_at_the_merge.Goals as goal

pub returns : goal.returns
returns c = λ meeting es later name are. all-merged meeting es later name are.sound are.again are.active are.fresh are.got
