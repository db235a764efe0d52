use Rattle.padp_link.proofs.NeighbourLaws.{session_keys_differ}
use Rattle.padp_link.proofs.laws.keys_differ_in_a_session.Goals as goal

pub returns : goal.returns
returns c = session_keys_differ
