-- A date that is read is in its bounds.
use Rattle.std.proofs.lemmas.Bool.{and_parts}
use Rattle.std.proofs.lemmas.Bool.Decides.{nat_tests}
use Rattle.std.proofs.lemmas.List.Elements.{All-nil, All-weaker}
use Rattle.std.proofs.Common.{arith, ◌≡◌, ◌<◌, ◌≤◌, ℕ, zero, suc, ◌+◌, Bool, true, false, List, Option, None, Some, cond, inl, inr, ◌⊎◌, refl, ◌&&◌}
use Rattle.std.specs.Prelude.{IfSome, IsTrue, nat_lt, option_map, unwrap_or}
use Rattle.std.specs.List.{All}
use Rattle.palm_records.specs.declared.day.Day.{Day}
use Rattle.palm_events.specs.declared.alarm.Alarm.{Alarm}
use Rattle.palm_events.specs.declared.repeat.Pattern.{Pattern}
use Rattle.palm_events.specs.declared.repeat.Pattern.TheVariants.{Daily, Weekly, MonthlyByDay, MonthlyByDate, Yearly}
use Rattle.palm_events.specs.declared.repeat.Repeat.{Repeat}
use Rattle.palm_events.specs.declared.rule.Rule.{Rule}
use Rattle.palm_events.specs.declared.times.Times.{Times}
use Rattle.palm_events.specs.Calendar.{day_at, day_number, is_date}
use Rattle.palm_events.specs.Events.{EventValue}
use Rattle.palm_events.specs.Forms.{AreRecordDays, IsEvent, are_times, is_pattern, is_record_day, is_repeat, is_until}
use Rattle.palm_events.specs.RecordRules.{frequency_of, repeat_rule, rule_if_shown, rule_of}
use Rattle.palm_events.specs.Shown.{first_from, first_shown, shows}
use Rattle.palm_events.proofs.CalendarLaws.{date_facts, high-month_days, is_date-day_at, year-day_at}
use Rattle.palm_events.proofs.FormLaws.{few-day_number}
use Rattle.content_lines.specs.Properties.{IsBytes}
use Rattle.calendar_export.specs.Dates.{IsAlarm, IsDate, IsDay, IsFrequency, IsRule, IsRuled, IsTimes, date_of, exceptions_of, is_same, start_of}
use Rattle.calendar_export.specs.Moments.{IsShort}

-- ---- the first day that is shown is not far off

chosen : (b : Bool) (number found : ℕ) (later : Option ℕ) → cond b (Some number) later ≡ Some found → (number ≡ found) ⊎ (later ≡ Some found)
chosen true number found later e = inl (cc e)
chosen false number found later e = inr e

pub first_from-bound : (test : ℕ → Bool) (count number found : ℕ) → first_from test count number ≡ Some found → found < number + count
unfolding first_from
first_from-bound test zero number found e = absurd (cc e)
first_from-bound test (suc more) number found e = elim (chosen (test number) number found (first_from test more (number + 1)) e) [
  | inl here ↦ omega (arith, here)
  | inr later ↦ let k = first_from-bound test more (number + 1) found later in omega (arith, k)
]

short_date : (day : Day) → is_date day ≡ true → day.year < 10000 → IsShort day
short_date day is year =
    let h = date_facts day is in
    record { year = year; month = omega (arith, h.month_high); day = omega (arith, h.day_high, high-month_days day.year day.month) }

pub short_record : (day : Day) → is_record_day day ≡ true → IsShort day
short_record day is =
    let date : is_date day ≡ true = grind (arith, nat_tests, is) in
    let year : day.year ≤ 2031 = grind (arith, nat_tests, is) in
    short_date day date (omega (arith, year))

short_shown : (first : Option ℕ) (event : EventValue) → is_record_day event.date ≡ true → first_shown event ≡ first
    → IsShort (unwrap_or (option_map day_at first) event.date)
unfolding first_shown
short_shown None event is e = short_record event.date is
short_shown (Some found) event is e =
    let far = first_from-bound (shows event) 8000 (day_number event.date) found e in
    short_date (day_at found) (is_date-day_at found) (omega (arith, year-day_at found, few-day_number event.date is, far))

pub short_start : (event : EventValue) → is_record_day event.date ≡ true → IsShort (start_of event)
short_start event is = short_shown (first_shown event) event is refl

-- ---- what is said

times_form : (time : Option Times) → IfSome time (λ times. IsTrue (are_times times)) → IsTimes time
times_form None h = tt
times_form (Some times) h = h

exceptions_form : (rule : Option Rule) (days : List Day) → AreRecordDays days → All IsShort (exceptions_of rule days)
exceptions_form None days h = All-nil IsShort
exceptions_form (Some rule) days h = All-weaker (λ day. IsTrue (is_record_day day)) IsShort short_record days h

own_form : (b : Bool) (day : Day) → IsShort day → IsDay (cond b None (Some day))
own_form true day h = tt
own_form false day h = h

frequency_form : (pattern : Pattern) → is_pattern pattern ≡ true → IsFrequency (frequency_of pattern)
frequency_form Daily h = tt
frequency_form (Weekly days true) h = (grind (arith, nat_tests, h), omega arith)
frequency_form (Weekly days false) h = (grind (arith, nat_tests, h), omega arith)
frequency_form (MonthlyByDay week weekday) h = grind (arith, nat_tests, h)
frequency_form MonthlyByDate h = tt
frequency_form Yearly h = tt

until_form : (until : Option Day) → is_until until ≡ true → IsDay until
until_form None h = tt
until_form (Some day) h = short_record day h

repeat_form : (repeat : Repeat) → is_repeat repeat ≡ true → IsRule (repeat_rule repeat)
repeat_form repeat h =
    let parts = and_parts (nat_lt 0 repeat.every && nat_lt repeat.every 256) (is_pattern repeat.pattern && is_until repeat.until) h in
    let rest = and_parts (is_pattern repeat.pattern) (is_until repeat.until) parts.1 in
    record {
      interval = grind (arith, nat_tests, parts.0);
      frequency = frequency_form repeat.pattern rest.0;
      until = until_form repeat.until rest.1;
    }

rule_form : (first : Option ℕ) (repeat : Option Repeat) → IfSome repeat (λ repeat. IsTrue (is_repeat repeat)) → IsRuled (rule_if_shown first repeat)
rule_form None repeat h = tt
rule_form (Some number) None h = tt
rule_form (Some number) (Some repeat) h = repeat_form repeat h

alarm_form : (alarm : Option Alarm) → IfSome alarm (λ alarm. alarm.advance < 128) → IsAlarm alarm
alarm_form None h = tt
alarm_form (Some alarm) h = h

pub date-form : (event : EventValue) → IsEvent event → IsBytes event.description → IsBytes event.note → IsDate (date_of event)
date-form event is description note = record {
  start = short_start event is.date;
  time = times_form event.time is.times;
  rule = rule_form (first_shown event) event.repeat is.repeat;
  exceptions = exceptions_form (rule_of event) event.exceptions is.exceptions;
  own = own_form (is_same (start_of event) event.date) event.date (short_record event.date is.date);
  alarm = alarm_form event.alarm is.alarm;
  description = description;
  note = note;
}
