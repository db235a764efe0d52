-- The values of a calendar: their characters are plain, and they are told.
use Rattle.std.proofs.lemmas.Bool.Decides.{nat_tests}
use Rattle.std.proofs.Common.{arith, ◌≡◌, ◌<◌, ◌++◌, ◌∷◌, [], ◌/◌, ◌∙◌, ◌==◌, ap, refl, sym, ℕ, ◌+◌, ◌-◌, ◌*◌, Bool, true, false, List, Option, None, Some, get_or}
use Rattle.std.specs.Prelude.{codes, if◌then◌else◌, nat_lt}
use Rattle.pdb_values.specs.CivilTimes.{civil_of}
use Rattle.palm_records.proofs.CharacterLaws.{every, every_at}
use Rattle.palm_records.specs.declared.day.Day.{Day}
use Rattle.palm_events.specs.declared.alarm.Alarm.{Alarm}
use Rattle.palm_events.specs.declared.alarm.AlarmUnit.{AlarmUnit}
use Rattle.palm_events.specs.declared.alarm.AlarmUnit.TheVariants.{Minutes, Hours, Days}
use Rattle.palm_events.specs.declared.repeat.Week.{Week}
use Rattle.palm_events.specs.declared.repeat.Week.TheVariants.{First, Second, Third, Fourth, Last}
use Rattle.palm_events.specs.declared.rule.Frequency.{Frequency}
use Rattle.palm_events.specs.declared.rule.Frequency.TheVariants.{Daily, Weekly, Monthly, MonthlyByDay, Yearly}
use Rattle.palm_events.specs.declared.rule.Rule.{Rule}
use Rattle.palm_events.specs.declared.times.Time.{Time}
use Rattle.palm_events.specs.declared.times.Times.{Times}
use Rattle.palm_events.specs.Times.{is_time}
use Rattle.content_lines.specs.Lines.{has_no_break}
use Rattle.content_lines.specs.Properties.{digit, is_plain}
use Rattle.content_lines.proofs.ByteLaws.{is_plain-append, plain-digit}
use Rattle.content_lines.proofs.ValueLaws.{unbroken-plain}
use Rattle.calendar_export.specs.Dates.{IsFrequency, IsRule}
use Rattle.calendar_export.specs.DateProperties.{day_value, time_chars, trigger_value, unit_letter, unit_mark}
use Rattle.calendar_export.specs.Moments.{IsShort, clock_chars, day_chars, four_digits, moment_of, stamp_chars, stamp_property, two_digits}
use Rattle.calendar_export.specs.RuleValues.{day_end, days_chars, frequency_chars, number_chars, rule_value, until_chars, week_chars, weekday_chars, weekdays_chars, weekdays_from}
use Rattle.calendar_export.specs.declared.moment.Moment.{Moment}

-- ---- days and times

plain-cons : (c : ℕ) (cs : List ℕ) → is_plain (c ∷ []) ≡ true → is_plain cs ≡ true → is_plain (c ∷ cs) ≡ true
plain-cons c cs e f = is_plain-append (c ∷ []) cs e f

plain-two : (a b : ℕ) (rest : List ℕ) → is_plain rest ≡ true → is_plain (digit a ∷ digit b ∷ rest) ≡ true
plain-two a b rest e = plain-cons (digit a) (digit b ∷ rest) (plain-digit a) (plain-cons (digit b) rest (plain-digit b) e)

plain-pair : (n : ℕ) → is_plain (two_digits n) ≡ true
plain-pair n = plain-two (n / 10) n [] refl

plain-four : (n : ℕ) → is_plain (four_digits n) ≡ true
plain-four n = plain-two (n / 1000) (n / 100) (digit (n / 10) ∷ digit n ∷ []) (plain-two (n / 10) n [] refl)

pub plain-day : (day : Day) → is_plain (day_chars day) ≡ true
plain-day day =
    is_plain-append (four_digits day.year) (two_digits day.month ++ two_digits day.day) (plain-four day.year)
    (is_plain-append (two_digits day.month) (two_digits day.day) (plain-pair day.month) (plain-pair day.day))

plain-clock : (hour minute second : ℕ) → is_plain (clock_chars hour minute second) ≡ true
plain-clock hour minute second =
    is_plain-append (two_digits hour) (two_digits minute ++ two_digits second) (plain-pair hour)
    (is_plain-append (two_digits minute) (two_digits second) (plain-pair minute) (plain-pair second))

plain-stamp : (time : Moment) → is_plain (stamp_chars time) ≡ true
plain-stamp time =
    let clock = clock_chars time.hour time.minute time.second in
    is_plain-append (day_chars time.day) (codes "T" ++ (clock ++ codes "Z")) (plain-day time.day)
    (is_plain-append (codes "T") (clock ++ codes "Z") refl (is_plain-append clock (codes "Z") (plain-clock time.hour time.minute time.second) refl))

pub unbroken-stamp : (made : ℕ) → has_no_break (stamp_property made).value ≡ true
unbroken-stamp made = unbroken-plain (stamp_chars (moment_of (civil_of made))) (plain-stamp (moment_of (civil_of made)))

pub unbroken-day : (day : Day) → has_no_break (day_chars day) ≡ true
unbroken-day day = unbroken-plain (day_chars day) (plain-day day)

plain-time : (day : Day) (time : Time) → is_plain (time_chars day time) ≡ true
plain-time day time =
    let clock = clock_chars time.hour time.minute 0 in
    is_plain-append (day_chars day) (codes "T" ++ clock) (plain-day day) (is_plain-append (codes "T") clock refl (plain-clock time.hour time.minute 0))

pub unbroken-time : (day : Day) (time : Time) → has_no_break (time_chars day time) ≡ true
unbroken-time day time = unbroken-plain (time_chars day time) (plain-time day time)

pub unbroken-day_value : (time : Option Times) (day : Day) → has_no_break (day_value time day) ≡ true
unbroken-day_value None day = unbroken-day day
unbroken-day_value (Some times) day = unbroken-time day times.start

same_four : (m n : ℕ) → m < 10000 → n < 10000 → digit (m / 1000) ≡ digit (n / 1000) → digit (m / 100) ≡ digit (n / 100)
    → digit (m / 10) ≡ digit (n / 10) → digit m ≡ digit n → m ≡ n
same_four m n p q a b c d = omega arith

same_two : (m n : ℕ) → m < 100 → n < 100 → digit (m / 10) ≡ digit (n / 10) → digit m ≡ digit n → m ≡ n
same_two m n p q a b = omega arith

pub day_chars_injective : (a b : Day) → IsShort a → IsShort b → day_chars a ≡ day_chars b → a ≡ b
day_chars_injective a b p q e =
    let at : (i : ℕ) → get_or (day_chars a) i 0 ≡ get_or (day_chars b) i 0 = λ i. ap (λ l. get_or l i 0) e in
    let year = same_four a.year b.year p.year q.year (at 0) (at 1) (at 2) (at 3) in
    let month = same_two a.month b.month p.month q.month (at 4) (at 5) in
    let day = same_two a.day b.day p.day q.day (at 6) (at 7) in
    λ i. record { year = year i; month = month i; day = day i }

pub time_injective : (c d : Day) (m n : Time) → is_time m ≡ true → is_time n ≡ true → time_chars c m ≡ time_chars d n → m ≡ n
time_injective c d m n p q e =
    let at : (i : ℕ) → get_or (time_chars c m) i 0 ≡ get_or (time_chars d n) i 0 = λ i. ap (λ l. get_or l i 0) e in
    let hour = same_two m.hour n.hour (grind (arith, nat_tests, p)) (grind (arith, nat_tests, q)) (at 9) (at 10) in
    let minute = same_two m.minute n.minute (grind (arith, nat_tests, p)) (grind (arith, nat_tests, q)) (at 11) (at 12) in
    λ i. record { hour = hour i; minute = minute i }

-- ---- rules

numbers_are_plain : every (λ n. is_plain (number_chars n)) 256 ≡ true
unfolding every
numbers_are_plain = refl

plain-number : (n : ℕ) → n < 256 → is_plain (number_chars n) ≡ true
plain-number n small = every_at (λ n. is_plain (number_chars n)) 256 n numbers_are_plain small

weekdays_are_plain : every (λ n. is_plain (weekday_chars n)) 7 ≡ true
unfolding every
weekdays_are_plain = refl

plain-weekday : (n : ℕ) → n < 7 → is_plain (weekday_chars n) ≡ true
plain-weekday n small = every_at (λ n. is_plain (weekday_chars n)) 7 n weekdays_are_plain small

weeks_are_plain : every (λ n. is_plain (weekdays_chars (record { bits = n }))) 128 ≡ true
unfolding every weekdays_from
weeks_are_plain = refl

plain-week : (week : Week) → is_plain (week_chars week) ≡ true
plain-week First = refl
plain-week Second = refl
plain-week Third = refl
plain-week Fourth = refl
plain-week Last = refl

plain-frequency : (frequency : Frequency) → is_plain (frequency_chars frequency) ≡ true
plain-frequency Daily = refl
plain-frequency (Weekly days first) = refl
plain-frequency Monthly = refl
plain-frequency (MonthlyByDay week weekday) = refl
plain-frequency Yearly = refl

plain-days : (frequency : Frequency) → IsFrequency frequency → is_plain (days_chars frequency) ≡ true
plain-days Daily is = refl
plain-days (Weekly days first) is =
    let week = every_at (λ n. is_plain (weekdays_chars (record { bits = n }))) 128 days.bits weeks_are_plain is.0 in
    let begin = codes ";WKST=" ++ weekday_chars first in
    is_plain-append (codes ";BYDAY=") (weekdays_chars days ++ begin) refl
    (is_plain-append (weekdays_chars days) begin week (is_plain-append (codes ";WKST=") (weekday_chars first) refl (plain-weekday first is.1)))
plain-days Monthly is = refl
plain-days (MonthlyByDay week weekday) is =
    is_plain-append (codes ";BYDAY=") (week_chars week ++ weekday_chars weekday) refl
    (is_plain-append (week_chars week) (weekday_chars weekday) (plain-week week) (plain-weekday weekday is))
plain-days Yearly is = refl

plain-end : (timed : Bool) → is_plain (day_end timed) ≡ true
plain-end true = refl
plain-end false = refl

plain-until : (timed : Bool) (until : Option Day) → is_plain (until_chars timed until) ≡ true
plain-until timed None = refl
plain-until timed (Some day) =
    is_plain-append (codes ";UNTIL=") (day_chars day ++ day_end timed) refl (is_plain-append (day_chars day) (day_end timed) (plain-day day) (plain-end timed))

plain-rule : (timed : Bool) (rule : Rule) → IsRule rule → is_plain (rule_value timed rule) ≡ true
plain-rule timed rule is =
    let until = until_chars timed rule.until in
    let behind = number_chars rule.interval ++ (days_chars rule.frequency ++ until) in
    is_plain-append (codes "FREQ=") (frequency_chars rule.frequency ++ (codes ";INTERVAL=" ++ behind)) refl
    (is_plain-append (frequency_chars rule.frequency) (codes ";INTERVAL=" ++ behind) (plain-frequency rule.frequency)
    (is_plain-append (codes ";INTERVAL=") behind refl
    (is_plain-append (number_chars rule.interval) (days_chars rule.frequency ++ until) (plain-number rule.interval is.interval)
    (is_plain-append (days_chars rule.frequency) until (plain-days rule.frequency is.frequency) (plain-until timed rule.until)))))

pub unbroken-rule : (timed : Bool) (rule : Rule) → IsRule rule → has_no_break (rule_value timed rule) ≡ true
unbroken-rule timed rule is = unbroken-plain (rule_value timed rule) (plain-rule timed rule is)

-- ---- alarms

plain-mark : (unit : AlarmUnit) → is_plain (unit_mark unit) ≡ true
plain-mark Minutes = refl
plain-mark Hours = refl
plain-mark Days = refl

plain-letter : (unit : AlarmUnit) → is_plain (unit_letter unit) ≡ true
plain-letter Minutes = refl
plain-letter Hours = refl
plain-letter Days = refl

pub unbroken-trigger : (alarm : Alarm) → alarm.advance < 128 → has_no_break (trigger_value alarm) ≡ true
unbroken-trigger alarm small =
    let behind = number_chars alarm.advance ++ unit_letter alarm.unit in
    unbroken-plain (trigger_value alarm)
    (is_plain-append (unit_mark alarm.unit) behind (plain-mark alarm.unit)
    (is_plain-append (number_chars alarm.advance) (unit_letter alarm.unit) (plain-number alarm.advance (omega (arith, small))) (plain-letter alarm.unit)))

-- the number of an alarm's trigger, and its unit as thousands
unfoldable pub alarm_in : ℕ → List ℕ → ℕ
alarm_in before [] = before
alarm_in before (c ∷ cs) =
    if c == 77 then before else (if c == 72 then 1000 + before else (if c == 68 then 2000 + before
    else (if nat_lt 57 c then alarm_in 0 cs else alarm_in (before * 10 + (c - 48)) cs)))

-- the thousands of a unit
abbrev pub thousands : AlarmUnit → ℕ
thousands Minutes = 0
thousands Hours = 1000
thousands Days = 2000

minutes_told : every (λ n. alarm_in 0 (trigger_value (record { advance = n; unit = Minutes })) == n) 128 ≡ true
unfolding every alarm_in
minutes_told = refl

hours_told : every (λ n. alarm_in 0 (trigger_value (record { advance = n; unit = Hours })) == 1000 + n) 128 ≡ true
unfolding every alarm_in
hours_told = refl

days_told : every (λ n. alarm_in 0 (trigger_value (record { advance = n; unit = Days })) == 2000 + n) 128 ≡ true
unfolding every alarm_in
days_told = refl

alarm_told : (unit : AlarmUnit) (n : ℕ) → n < 128 → alarm_in 0 (trigger_value (record { advance = n; unit = unit })) ≡ thousands unit + n
alarm_told Minutes n small =
    let told = every_at (λ n. alarm_in 0 (trigger_value (record { advance = n; unit = Minutes })) == n) 128 n minutes_told small in
    grind (arith, nat_tests, told)
alarm_told Hours n small =
    let told = every_at (λ n. alarm_in 0 (trigger_value (record { advance = n; unit = Hours })) == 1000 + n) 128 n hours_told small in
    grind (arith, nat_tests, told)
alarm_told Days n small =
    let told = every_at (λ n. alarm_in 0 (trigger_value (record { advance = n; unit = Days })) == 2000 + n) 128 n days_told small in
    grind (arith, nat_tests, told)

same_alarm : (u v : AlarmUnit) (m n : ℕ) → m < 128 → n < 128 → thousands u + m ≡ thousands v + n → (u ≡ v) × (m ≡ n)
same_alarm Minutes Minutes m n small_m small_n e = (refl, omega (arith, e))
same_alarm Hours Hours m n small_m small_n e = (refl, omega (arith, e))
same_alarm Days Days m n small_m small_n e = (refl, omega (arith, e))
same_alarm Minutes Hours m n small_m small_n e = absurd (omega (arith, e, small_m, small_n))
same_alarm Minutes Days m n small_m small_n e = absurd (omega (arith, e, small_m, small_n))
same_alarm Hours Minutes m n small_m small_n e = absurd (omega (arith, e, small_m, small_n))
same_alarm Hours Days m n small_m small_n e = absurd (omega (arith, e, small_m, small_n))
same_alarm Days Minutes m n small_m small_n e = absurd (omega (arith, e, small_m, small_n))
same_alarm Days Hours m n small_m small_n e = absurd (omega (arith, e, small_m, small_n))

pub trigger_injective : (a b : Alarm) → a.advance < 128 → b.advance < 128 → trigger_value a ≡ trigger_value b → a ≡ b
trigger_injective a b small_a small_b e =
    let sums = sym (alarm_told a.unit a.advance small_a) ∙ (ap (alarm_in 0) e ∙ alarm_told b.unit b.advance small_b) in
    let parts = same_alarm a.unit b.unit a.advance b.advance small_a small_b sums in
    λ i. record { advance = parts.1 i; unit = parts.0 i }
