use Rattle.padp_link.proofs.ReceiverLaws.{all_are_fragments}
use Rattle.padp_link.proofs.laws.pieces_are_fragments.Goals as goal

pub returns : goal.returns
returns c = all_are_fragments
