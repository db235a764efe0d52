use Rattle.foreign_laws.proofs.PartTwins.{twin_under}
use Rattle.foreign_laws.proofs.request_laws.what_is_under_a_handle_ends_alike.Goals as goal

pub returns : goal.returns
returns g c = λ opening inner opens alike. twin_under opens alike
