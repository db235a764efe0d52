use Rattle.front_laws.proofs.InPlaceLaws.{end-place, unmet-place}
use Rattle.front_laws.proofs.LifeLaws.{life-there}
use Rattle.front_laws.proofs.life_laws.a_life_loses_nothing.Goals as goal

pub returns : goal.returns
returns c = record { life = life-there; first = unmet-place; again = end-place }
