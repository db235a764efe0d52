use Rattle.std.proofs.Common.{arith, ◌≡◌, ◌<◌, ◌+◌, ◌++◌, ◌∙◌, ap, codes, length, slice_get, suc, sym, take, take_all}
use Rattle.std.specs.Prelude.{map}
use Rattle.palm_events.specs.Exceptions.{days_in}
use Rattle.content_lines.proofs.GrowthLaws.{grown-2}
use Rattle.calendar_export.specs.DateProperties.{day_property, exception_properties}
use Rattle.calendar_export.proofs.DateGrowth.{map-take}
use Rattle.calendar_export.proofs.date.push_exceptions.Goals as goal

pub loop-index-preserved : goal.loop-index-preserved
loop-index-preserved c =
    let at = c.loop-index.index in
    let days = days_in c.args.exceptions.bytes.now in
    let property = day_property (codes "EXDATE") c.args.time in
    let less : at < length days = omega (arith, c.loop-index-test.true, c.len-index-end.ensures) in
    let next : suc at ≡ at + 1 = omega arith in
    grown-2 _ _ _ (map property (take at days)) (exception_properties property (slice_get days at)) c.loop-index.invariant
    (c.in_ok-push_exception.ensures ∙ ap (λ d. c.loop-index.calendar ++ exception_properties property d) c.get.ensures)
    ∙ ap (λ l. c.args.calendar.now ++ l) (sym (map-take property days at less) ∙ ap (λ n. map property (take n days)) next)

pub returns : goal.returns
returns c =
    let days = days_in c.args.exceptions.bytes.now in
    c.loop-index.invariant
    ∙ ap (λ l. c.args.calendar.now ++ map (day_property (codes "EXDATE") c.args.time) l)
    (take_all c.loop-index.index days (omega (arith, c.loop-index-test.false, c.len-index-end.ensures)))
