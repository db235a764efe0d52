use Rattle.foreign_laws.proofs.AskTwins.{twin_closes}
use Rattle.foreign_laws.proofs.OpenTwins.{makes_alike, opens_alike}
use Rattle.foreign_laws.proofs.request_laws.a_handle_has_a_twin.Goals as goal

pub returns : goal.returns
returns c = record { opens = opens_alike; makes = makes_alike; closes = twin_closes }
