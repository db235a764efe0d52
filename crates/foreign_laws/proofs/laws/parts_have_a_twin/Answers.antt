use Rattle.foreign_laws.proofs.PartTwins.{twin_bind}
use Rattle.foreign_laws.proofs.laws.parts_have_a_twin.Goals as goal

pub returns : goal.returns
returns g c = λ part own next later first rest. twin_bind first rest
