use Rattle.calendar_export.proofs.RuleLaws.{rule_injective}
use Rattle.calendar_export.proofs.laws.a_value_is_that_of_one_rule.Goals as goal

pub returns : goal.returns
returns c = rule_injective
