use Rattle.palm_events.proofs.RuleLaws.{the_rule_occurs}
use Rattle.palm_events.proofs.rule.the_rule_occurs_where_the_record_shows.Goals as goal

pub returns : goal.returns
returns c = the_rule_occurs
