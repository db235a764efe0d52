use Rattle.padp_link.proofs.NeighbourLaws.{keys_differ}
use Rattle.padp_link.proofs.laws.neighbours_have_different_keys.Goals as goal

pub returns : goal.returns
returns c = keys_differ
