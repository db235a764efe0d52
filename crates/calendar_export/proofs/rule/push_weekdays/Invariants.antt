use Rattle.std.proofs.Common.{◌≡◌, ◌-◌, ◌++◌, false}
use Rattle.calendar_export.specs.RuleValues.{weekdays_from}
use Rattle.calendar_export.proofs.rule.push_weekdays.Given as goal

abbrev pub invariant-loop-weekday : goal.invariant-loop-weekday
invariant-loop-weekday l =
    l.value ++ weekdays_from l.days (7 - l.weekday) l.weekday l.some ≡ l.initial.value ++ weekdays_from l.days 7 0 false
