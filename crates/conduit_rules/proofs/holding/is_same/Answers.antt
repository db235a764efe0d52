use Rattle.conduit_rules.proofs.ContentLaws.{same_content-from}
use Rattle.conduit_rules.proofs.holding.is_same.Goals as goal

pub returns : goal.returns
returns c = same_content-from c.same.result c.args.content.now c.args.other.now c.same.ensures
