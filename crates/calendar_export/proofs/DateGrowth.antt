-- Dates and rules whose text grows.
use Rattle.std.proofs.Common.{arith, ◌≡◌, ◌<◌, ◌++◌, ◌∷◌, [], ◌∙◌, ap, refl, ℕ, zero, suc, ◌+◌, Bool, true, false, List, Option, Some, length, slice_get, take}
use Rattle.std.specs.Prelude.{codes, map}
use Rattle.std.specs.Option.{is_some}
use Rattle.palm_records.specs.declared.day.Day.{Day}
use Rattle.palm_events.specs.declared.repeat.Weekdays.{Weekdays}
use Rattle.palm_events.specs.declared.rule.Rule.{Rule}
use Rattle.palm_events.specs.declared.times.Times.{Times}
use Rattle.palm_events.specs.Events.{EventValue}
use Rattle.palm_events.specs.RecordRules.{rule_of}
use Rattle.palm_events.specs.Shown.{has_weekday}
use Rattle.content_lines.specs.Properties.{PropertyValue, plain_property}
use Rattle.content_lines.proofs.GrowthLaws.{grown-5}
use Rattle.calendar_export.specs.Dates.{date_of, exceptions_of, own_of, start_of}
use Rattle.calendar_export.specs.DateProperties.{day_mark, day_property, day_value, end_day, end_properties, exception_properties, is_same_time, own_properties, time_chars, when_properties}
use Rattle.calendar_export.specs.RuleValues.{comma, rule_properties, weekday_chars, weekdays_from}

pub weekdays_from-other : (days : Weekdays) (weekday more : ℕ) (some : Bool) → has_weekday days weekday ≡ false
    → weekdays_from days more (weekday + 1) some ≡ weekdays_from days (suc more) weekday some
unfolding weekdays_from
weekdays_from-other days weekday more some e = rw e refl

pub weekdays_from-day : (days : Weekdays) (weekday more : ℕ) (some : Bool) → has_weekday days weekday ≡ true
    → (comma some ++ weekday_chars weekday) ++ weekdays_from days more (weekday + 1) true ≡ weekdays_from days (suc more) weekday some
unfolding weekdays_from
weekdays_from-day days weekday more some e = rw e refl

pub weekdays_from-none : (days : Weekdays) (weekday : ℕ) (some : Bool) → weekdays_from days zero weekday some ≡ []
unfolding weekdays_from
weekdays_from-none days weekday some = refl

-- one more day
pub map-take : (property : Day → PropertyValue) (days : List Day) (index : ℕ) → index < length days
    → map property (take (suc index) days) ≡ map property (take index days) ++ exception_properties property (slice_get days index)
map-take property [] index less =
    let no : ⊥ = omega (arith, less) in
    absurd no
map-take property (day ∷ days) zero less = refl
map-take property (day ∷ days) (suc index) less = ap (λ l. property day ∷ l) (map-take property days index (omega (arith, less)))

pub end-grown : (old new : List PropertyValue) (start : Day) (time : Option Times) (times : Times) → time ≡ Some times → is_same_time times ≡ false
    → new ≡ old ++ plain_property (codes "DTEND") (time_chars (end_day start times) times.end) ∷ [] → new ≡ old ++ end_properties start time
end-grown old new start time times is other grown = rw (is, other) grown

pub when-grown : (old one two three four new : List PropertyValue) (name value : List ℕ) (event : EventValue) (start : Day) (timed : Bool) (rule : Option Rule)
    (own : Option Day) → start ≡ start_of event → timed ≡ is_some event.time → rule ≡ rule_of event → own ≡ own_of start event.date
    → name ≡ codes "DTSTART" ++ day_mark event.time → value ≡ day_value event.time start → one ≡ old ++ plain_property name value ∷ []
    → two ≡ one ++ end_properties start event.time → three ≡ two ++ rule_properties timed rule
    → four ≡ three ++ map (day_property (codes "EXDATE") event.time) (exceptions_of rule event.exceptions) → new ≡ four ++ own_properties own
    → new ≡ old ++ when_properties (date_of event)
when-grown old one two three four new name value event start timed rule own is_start is_timed is_rule is_own is_name is_value a b c d e =
    let from = is_value ∙ ap (day_value event.time) is_start in
    grown-5 old one two three four new (day_property (codes "DTSTART") event.time (start_of event) ∷ []) (end_properties (start_of event) event.time)
    (rule_properties (is_some event.time) (rule_of event)) (map (day_property (codes "EXDATE") event.time) (exceptions_of (rule_of event) event.exceptions))
    (own_properties (own_of (start_of event) event.date)) (a ∙ (λ i. old ++ plain_property (is_name i) (from i) ∷ []))
    (b ∙ ap (λ s. one ++ end_properties s event.time) is_start) (c ∙ (λ i. two ++ rule_properties (is_timed i) (is_rule i)))
    (d ∙ ap (λ r. three ++ map (day_property (codes "EXDATE") event.time) (exceptions_of r event.exceptions)) is_rule)
    (e ∙ (ap (λ o. four ++ own_properties o) is_own ∙ ap (λ s. four ++ own_properties (own_of s event.date)) is_start))
