use Rattle.foreign_laws.specs.Foreign.{ForeignStep}
use Rattle.foreign_laws.proofs.EndLaws.{tries_end}
use Rattle.foreign_laws.proofs.laws.tries_are_an_end.Goals as goal

pub returns : goal.returns
returns g c = λ asked tries old new x after takes. tries_end ForeignStep asked tries old x new after takes
