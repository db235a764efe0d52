use Rattle.foreign_laws.proofs.PartTwins.{twin_purges}
use Rattle.foreign_laws.proofs.request_laws.a_purge_has_a_twin.Goals as goal

pub returns : goal.returns
returns c = twin_purges
