use Rattle.std.proofs.Common.{[], ◌∷◌, ap, codes, sym, ◌++◌, ◌∙◌}
use Rattle.content_lines.specs.Properties.{plain_property}
use Rattle.content_lines.proofs.GrowthLaws.{grown-2}
use Rattle.calendar_export.specs.DateProperties.{time_chars}
use Rattle.calendar_export.proofs.DateGrowth.{end-grown}
use Rattle.calendar_export.proofs.date.push_end.Goals as goal

pub returns : goal.returns
returns c =
    end-grown _ _ c.args.start c.args.time c.in-Some.times c.in-Some.is (sym c.is_same_time.ensures ∙ c.if-is_same_time.false)
    (c.in_ok-push.ensures
    ∙ ap (λ v. c.args.calendar.now ++ plain_property (codes "DTEND") v ∷ [])
    (grown-2 [] _ _ (codes "") _ c.in_ok-value.ensures c.in_ok-push_time.ensures ∙ ap (λ d. time_chars d c.in-Some.times.end) c.end_day.ensures))
