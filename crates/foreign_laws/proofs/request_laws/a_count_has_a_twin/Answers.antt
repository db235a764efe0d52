use Rattle.foreign_laws.proofs.AskTwins.{twin_counts}
use Rattle.foreign_laws.proofs.request_laws.a_count_has_a_twin.Goals as goal

pub returns : goal.returns
returns c = twin_counts
