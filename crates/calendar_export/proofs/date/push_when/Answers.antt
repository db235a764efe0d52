use Rattle.palm_events.specs.Events.{event_value}
use Rattle.calendar_export.proofs.DateGrowth.{when-grown}
use Rattle.calendar_export.proofs.date.push_when.Goals as goal

pub returns : goal.returns
returns c =
    when-grown _ _ _ _ _ _ c.start_name.result.now c.in_ok-value.value (event_value c.args.event.now) c.start_of-start.result c.is_some.result
    c.rule_of-rule.result c.own_of.result c.start_of-start.ensures.start c.is_some.ensures c.rule_of-rule.ensures c.own_of.ensures c.start_name.ensures.name
    c.in_ok-value.ensures c.in_ok-push.ensures c.in_ok-push_end.ensures c.in_ok-push_rule.ensures c.in_ok-push_ruled.ensures c.in_ok-push_own.ensures
