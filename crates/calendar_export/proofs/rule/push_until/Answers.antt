use Rattle.std.proofs.Common.{ap, codes, ◌++◌, ◌∙◌}
use Rattle.calendar_export.specs.Moments.{day_chars}
use Rattle.calendar_export.specs.RuleValues.{day_end}
use Rattle.content_lines.proofs.GrowthLaws.{grown-3}
use Rattle.calendar_export.proofs.rule.push_until.Goals as goal

pub returns : goal.returns
returns c =
    rw c.in-Some.is
    (grown-3 c.args.value.now c.push_plain.new.self c.push_day.new.value c.push_plain-2.new.self (codes ";UNTIL=") (day_chars c.in-Some.day) (day_end c.args.timed)
    c.in_ok-push_plain.ensures c.in_ok-push_day.ensures (c.in_ok-push_plain-2.ensures ∙ ap (λ l. c.push_day.new.value ++ l) c.day_end.ensures.end))
