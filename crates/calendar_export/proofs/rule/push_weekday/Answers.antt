use Rattle.std.proofs.Common.{◌≡◌, ◌+◌, ◌++◌, ◌∙◌, ap, append_assoc, false, true}
use Rattle.palm_events.specs.Shown.{has_weekday}
use Rattle.calendar_export.specs.RuleValues.{comma, weekday_chars, weekdays_from}
use Rattle.calendar_export.proofs.DateGrowth.{weekdays_from-day, weekdays_from-other}
use Rattle.content_lines.proofs.GrowthLaws.{grown-2}
use Rattle.calendar_export.proofs.rule.push_weekday.Goals as goal

pub returns-then-not-has : goal.returns-then-not-has
returns-then-not-has c more =
    let e : has_weekday c.args.days c.args.weekday ≡ false = cc in
    ap (λ l. c.args.value.now ++ l) (weekdays_from-other c.args.days c.args.weekday more c.args.some e)

pub returns : goal.returns
returns c more =
    let e : has_weekday c.args.days c.args.weekday ≡ true = cc in
    let line = c.args.value.now in
    let day = weekday_chars c.args.weekday in
    let grown : c.push_plain-2.new.self ≡ line ++ (comma c.args.some ++ day) =
    grown-2 line c.push_plain.new.self c.push_plain-2.new.self (comma c.args.some) day
    (c.in_ok-push_plain.ensures ∙ ap (λ l. line ++ l) c.comma.ensures.comma)
    (c.in_ok-push_plain-2.ensures ∙ ap (λ l. c.push_plain.new.self ++ l) c.weekday_name.ensures.name) in
    ap (λ l. l ++ weekdays_from c.args.days more (c.args.weekday + 1) true) grown
    ∙ (append_assoc line (comma c.args.some ++ day) (weekdays_from c.args.days more (c.args.weekday + 1) true)
    ∙ ap (λ l. line ++ l) (weekdays_from-day c.args.days c.args.weekday more c.args.some e))
