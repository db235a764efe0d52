use Rattle.conduit_rules.proofs.BothLaws.{both-counted, both-is, without_base-is}
use Rattle.conduit_rules.proofs.laws.both_sides_are_kept.Goals as goal

pub returns-clause-choice : goal.returns-clause-choice
returns-clause-choice c = both-is

pub returns-clause-base : goal.returns-clause-base
returns-clause-base c = without_base-is

pub returns-clause-counted : goal.returns-clause-counted
returns-clause-counted c = both-counted
