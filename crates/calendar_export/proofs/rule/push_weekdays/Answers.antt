use Rattle.std.proofs.Common.{arith, ◌≡◌, ◌+◌, ◌-◌, ◌++◌, ◌∙◌, ap, append-nil, suc, sym}
use Rattle.calendar_export.specs.RuleValues.{weekdays_from}
use Rattle.calendar_export.proofs.DateGrowth.{weekdays_from-none}
use Rattle.calendar_export.proofs.rule.push_weekdays.Goals as goal

pub loop-weekday-preserved : goal.loop-weekday-preserved
loop-weekday-preserved c =
    let at = c.loop-weekday.weekday in
    let left : suc (7 - (at + 1)) ≡ 7 - at = omega arith in
    c.in_ok-some.ensures (7 - (at + 1))
    ∙ (ap (λ n. c.loop-weekday.value ++ weekdays_from c.args.days n at c.loop-weekday.some) left ∙ c.loop-weekday.invariant)

pub returns : goal.returns
returns c =
    let at = c.loop-weekday.weekday in
    let line = c.loop-weekday.value in
    let left : 7 - at ≡ 0 = omega arith in
    sym (append-nil line) ∙ (ap (λ l. line ++ l) (sym (weekdays_from-none c.args.days at c.loop-weekday.some))
    ∙ (ap (λ n. line ++ weekdays_from c.args.days n at c.loop-weekday.some) (sym left) ∙ c.loop-weekday.invariant))
