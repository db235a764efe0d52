use Rattle.conduit_rules.proofs.ViewLaws.{fast_sides}
use Rattle.conduit_rules.proofs.laws.a_fast_reading_is_as_good.Goals as goal

pub returns : goal.returns
returns c = fast_sides
