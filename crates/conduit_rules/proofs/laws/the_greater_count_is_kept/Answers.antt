use Rattle.conduit_rules.proofs.PairingLaws.{greater_kept}
use Rattle.conduit_rules.proofs.laws.the_greater_count_is_kept.Goals as goal

pub returns : goal.returns
returns c = greater_kept
