use Rattle.foreign_laws.proofs.PartTwins.{twin_slowly}
use Rattle.foreign_laws.proofs.request_laws.a_whole_reading_has_a_twin.Goals as goal

pub returns : goal.returns
returns c = twin_slowly
