use Rattle.port_link.proofs.RoundLaws.{round}
use Rattle.port_link.proofs.laws.transactions_come_round.Goals as goal

pub returns : goal.returns
returns c number = round number
