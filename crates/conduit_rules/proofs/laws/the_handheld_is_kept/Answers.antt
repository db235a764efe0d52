use Rattle.conduit_rules.proofs.ActionLaws.{handheld-is, handheld-unwritten}
use Rattle.conduit_rules.proofs.laws.the_handheld_is_kept.Goals as goal

pub returns-clause-choice : goal.returns-clause-choice
returns-clause-choice c = handheld-is

pub returns-clause-unwritten : goal.returns-clause-unwritten
returns-clause-unwritten c = handheld-unwritten
