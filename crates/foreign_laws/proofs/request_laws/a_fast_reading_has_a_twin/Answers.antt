use Rattle.foreign_laws.proofs.PartTwins.{twin_fast}
use Rattle.foreign_laws.proofs.request_laws.a_fast_reading_has_a_twin.Goals as goal

pub returns : goal.returns
returns c = λ base handle. twin_fast handle base
