use Rattle.conduit_rules.proofs.ActionLaws.{desktop-is}
use Rattle.conduit_rules.proofs.laws.the_desktop_is_kept.Goals as goal

pub returns : goal.returns
returns c = desktop-is
