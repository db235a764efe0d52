use Rattle.trace_check.proofs.RuleLaws.{seven-rules}
use Rattle.trace_check.proofs.laws.the_rules_are_the_definition.Goals as goal

pub returns : goal.returns
returns c = seven-rules
