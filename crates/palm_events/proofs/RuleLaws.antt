-- A record's rule occurs where the record shows.
use Rattle.std.proofs.Common.{inl, inr, ◌≡◌, ◌∙◌, ℕ, ◌+◌, ◌-◌, ◌*◌, ◌/◌, ◌%◌, ◌<◌, ◌≤◌, ◌==◌, ◌&&◌, Bool, true, false, Option, None, Some, ap, refl, sym, arith, true≢false}
use Rattle.std.proofs.Math.Nat.{add-mul-mod_self_left}
use Rattle.std.proofs.lemmas.Bool.{cases_lt}
use Rattle.std.proofs.lemmas.Bool.Decides.{nat_tests}
use Rattle.std.specs.Prelude.{nat_le}
use Rattle.palm_records.specs.declared.day.Day.{Day}
use Rattle.palm_events.specs.declared.repeat.Pattern.{Pattern}
use Rattle.palm_events.specs.declared.repeat.Pattern.TheVariants.{Daily, Weekly, MonthlyByDay, MonthlyByDate, Yearly}
use Rattle.palm_events.specs.declared.repeat.Repeat.{Repeat}
use Rattle.palm_events.specs.declared.repeat.Week.{Week}
use Rattle.palm_events.specs.declared.repeat.Week.TheVariants.{First, Second, Third, Fourth, Last}
use Rattle.palm_events.specs.declared.rule.Rule.{Rule}
use Rattle.palm_events.specs.Calendar.{day_at, day_number, month_number, week_number}
use Rattle.palm_events.specs.Events.{EventValue}
use Rattle.palm_events.specs.RecordRules.{TheRuleOccursWhereTheRecordShows, frequency_of, repeat_rule, rule_if_shown}
use Rattle.palm_events.specs.Rules.{is_occurrence, is_within, occurs, recurs}
use Rattle.palm_events.specs.Shown.{IsFirstShown, first_shown, first_weekday, has_day, is_turn, is_up_to, is_week, last_number, repeats, shows}
use Rattle.palm_events.proofs.CalendarLaws.{day_at-is, month-later, year-later}
use Rattle.palm_events.proofs.ShownLaws.{first_shown-is, shows-early, shows-repeats}

both_true : (a b : Bool) → (a && b) ≡ true → (a ≡ true) × (b ≡ true)
both_true a b e = grind arith

is_zero : (n : ℕ) → (n == 0) ≡ true → n ≡ 0
is_zero n e = grind (arith, nat_tests)

is_equal : (a b : ℕ) → (a == b) ≡ true → a ≡ b
is_equal a b e = grind (arith, nat_tests)

whole : (every count : ℕ) → count % every ≡ 0 → count ≡ every * (count / every)
whole every count e = grind arith

-- a turn is counted from any other turn
turn-from : (every one other last : ℕ) → one ≤ other → other ≤ last → is_turn every (other - one) ≡ true
    → is_turn every (last - other) ≡ is_turn every (last - one)
turn-from every one other last low high e =
    let none = is_zero ((other - one) % every) e in
    let full = whole every (other - one) none in
    let sum : last - one ≡ (last - other) + every * ((other - one) / every) = omega (arith, full) in
    let same : (last - one) % every ≡ (last - other) % every =
    ap (λ count. count % every) sum ∙ add-mul-mod_self_left (last - other) every ((other - one) / every) in
    rw same refl

week-later : (first one other : ℕ) → one ≤ other → week_number first one ≤ week_number first other
week-later first one other order = omega arith

-- the occurrence of a weekday is the week
occurrence-week : (week : Week) (day : Day) → 1 ≤ day.day → is_occurrence week day ≡ is_week week day
occurrence-week First day low = grind (arith, nat_tests)
occurrence-week Second day low = grind (arith, nat_tests)
occurrence-week Third day low = grind (arith, nat_tests)
occurrence-week Fourth day low = grind (arith, nat_tests)
occurrence-week Last day low = refl

-- from a day that a pattern has the rule recurs where the pattern has its days
recurs-has_day : (pattern : Pattern) (every one other number : ℕ) → one ≤ other → other ≤ number → has_day pattern every one other ≡ true
    → recurs (frequency_of pattern) every other number ≡ has_day pattern every one number
recurs-has_day Daily every one other number low high e = turn-from every one other number low high e
recurs-has_day (Weekly days from_monday) every one other number low high e =
    let first = first_weekday from_monday in
    let turn = (both_true _ _ e).1 in
    let weeks = turn-from every (week_number first one) (week_number first other) (week_number first number)
    (week-later first one other low) (week-later first other number high) turn in
    rw weeks refl
recurs-has_day (MonthlyByDay week weekday) every one other number low high e =
    let turn = (both_true _ _ (both_true _ _ e).1).1 in
    let months = turn-from every (month_number (day_at one)) (month_number (day_at other)) (month_number (day_at number))
    (month-later one other low) (month-later other number high) turn in
    let is = occurrence-week week (day_at number) (day_at-is number).date.day_low in
    rw (is, months) refl
recurs-has_day MonthlyByDate every one other number low high e =
    let parts = both_true _ _ e in
    let day : (day_at other).day ≡ (day_at one).day = is_equal _ _ parts.0 in
    let months = turn-from every (month_number (day_at one)) (month_number (day_at other)) (month_number (day_at number))
    (month-later one other low) (month-later other number high) parts.1 in
    rw (day, months) refl
recurs-has_day Yearly every one other number low high e =
    let parts = both_true _ _ e in
    let later = both_true _ _ parts.1 in
    let day : (day_at other).day ≡ (day_at one).day = is_equal _ _ parts.0 in
    let month : (day_at other).month ≡ (day_at one).month = is_equal _ _ later.0 in
    let years = turn-from every (day_at one).year (day_at other).year (day_at number).year (year-later one other low) (year-later other number high) later.1 in
    rw (day, month, years) refl

within-up_to : (repeat : Repeat) (number : ℕ) → is_within repeat.until number ≡ is_up_to (last_number repeat.until) number
within-up_to repeat number = same repeat.until
  where
    same : (until : Option Day) → is_within until number ≡ is_up_to (last_number until) number
    same None = refl
    same (Some day) = refl

-- the repeat of a record with a rule
pub rule_of-repeat : (found : Option ℕ) (repeat : Option Repeat) (rule : Rule) → rule_if_shown found repeat ≡ Some rule
    → (own : Repeat) × (repeat ≡ Some own) × (rule ≡ repeat_rule own)
rule_of-repeat None repeat rule e = absurd (cc)
rule_of-repeat (Some number) None rule e = absurd (cc)
rule_of-repeat (Some number) (Some own) rule e = (own, refl, sym (some_is (repeat_rule own) rule e))
  where
    some_is : (a b : Rule) → ◌≡◌ {A = Option Rule} (Some a) (Some b) → a ≡ b
    some_is a b h = cc

-- from its first day on, the rule occurs where the repeat has its days
occurs-repeats : (repeat : Repeat) (one other number : ℕ) → one ≤ other → other ≤ number → repeats (Some repeat) one other ≡ true
    → occurs (repeat_rule repeat) other number ≡ repeats (Some repeat) one number
occurs-repeats repeat one other number low high e =
    let later : nat_le other number ≡ true = grind (arith, nat_tests) in
    let has = (both_true (is_up_to (last_number repeat.until) other) (has_day repeat.pattern repeat.every one other) e).1 in
    rw (later, within-up_to repeat number, recurs-has_day repeat.pattern repeat.every one other number low high has) refl

occurs-early : (rule : Rule) (start number : ℕ) → number < start → occurs rule start number ≡ false
occurs-early rule start number early =
    let is : nat_le start number ≡ false = grind (arith, nat_tests) in
    rw is refl

-- the first day is not before the record's own date
first-late : (event : EventValue) (start : ℕ) → IsFirstShown event start → day_number event.date ≤ start
first-late event start h =
    elim (cases_lt start (day_number event.date)) [
      | inl lt ↦ absurd (true≢false (sym h.shown ∙ shows-early event start lt))
      | inr ge ↦ ge
    ]

shows-own : (event : EventValue) (repeat : Repeat) (number : ℕ) → event.repeat ≡ Some repeat → day_number event.date ≤ number
    → shows event number ≡ repeats (Some repeat) (day_number event.date) number
shows-own event repeat number e late = shows-repeats event number late ∙ ap (λ found. repeats found (day_number event.date) number) e

each_day : (event : EventValue) (repeat : Repeat) (start : ℕ) → event.repeat ≡ Some repeat → IsFirstShown event start
    → (number : ℕ) → occurs (repeat_rule repeat) start number ≡ shows event number
each_day event repeat start e h number =
    let late = first-late event start h in
    elim (cases_lt number start) [
      | inl lt ↦ occurs-early (repeat_rule repeat) start number lt ∙ sym (h.first number lt)
      | inr ge ↦
          let own = sym (shows-own event repeat start e late) ∙ h.shown in
          occurs-repeats repeat (day_number event.date) start number late ge own ∙ sym (shows-own event repeat number e (omega (arith, late, ge)))
    ]

pub the_rule_occurs : TheRuleOccursWhereTheRecordShows
the_rule_occurs event rule start form is found =
    let own = rule_of-repeat (first_shown event) event.repeat rule is in
    let h = first_shown-is event start found in
    let days = each_day event own.0 start own.1 h in
    rw own.2 (days, days start ∙ h.shown)
