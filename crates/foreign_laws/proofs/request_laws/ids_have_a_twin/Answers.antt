use Rattle.foreign_laws.proofs.IdTwins.{twin_ids}
use Rattle.foreign_laws.proofs.request_laws.ids_have_a_twin.Goals as goal

pub returns : goal.returns
returns c = twin_ids
