use Rattle.padp_link.proofs.ReceiverLaws.{gives_the_message}
use Rattle.padp_link.proofs.laws.pieces_give_the_message.Goals as goal

pub returns : goal.returns
returns c = gives_the_message
