-- The days of a rule of recurrence (RFC 5545, section 3.3.10), which begins on the day of DTSTART.
use Rattle.std.specs.Prelude.{ℕ, ◌+◌, ◌-◌, ◌*◌, ◌%◌, ◌==◌, ◌&&◌, Bool, true, nat_le, nat_lt, Option, None, Some}
use Rattle.pdb_values.specs.CivilTimes.{days_in_month}
use Rattle.palm_records.specs.declared.day.Day.{Day}
use Rattle.palm_events.specs.declared.repeat.Week.{Week}
use Rattle.palm_events.specs.declared.repeat.Week.TheVariants.{First, Second, Third, Fourth, Last}
use Rattle.palm_events.specs.declared.rule.Frequency.{Frequency}
use Rattle.palm_events.specs.declared.rule.Frequency.TheVariants.{Daily, Weekly, Monthly, MonthlyByDay, Yearly}
use Rattle.palm_events.specs.declared.rule.Rule.{Rule}
use Rattle.palm_events.specs.Calendar.{day_at, day_number, is_same_day, is_same_month, months_between, weekday_of, weeks_between, years_between}
use Rattle.palm_events.specs.Shown.{has_weekday}

-- INTERVAL: each so many days, weeks, months or years from that of DTSTART
abbrev pub is_interval : ℕ → ℕ → Bool
is_interval interval count = count % interval == 0

-- UNTIL bounds the rule in an inclusive manner
abbrev pub is_within : Option Day → ℕ → Bool
is_within None number = true
is_within (Some until) number = nat_le number (day_number until)

-- the n-th occurrence of a weekday in a month is one of the n-th seven days of it
abbrev pub is_nth : ℕ → Day → Bool
is_nth n day = nat_lt (7 * (n - 1)) day.day && nat_le day.day (7 * n)

-- the last occurrence of a weekday in a month is one of the last seven days of it
abbrev pub is_last : Day → Bool
is_last day = nat_lt (days_in_month day.year day.month) (day.day + 7)

-- BYDAY with a number before the weekday, -1 for the last one
abbrev pub is_occurrence : Week → Day → Bool
is_occurrence First day = is_nth 1 day
is_occurrence Second day = is_nth 2 day
is_occurrence Third day = is_nth 3 day
is_occurrence Fourth day = is_nth 4 day
is_occurrence Last day = is_last day

-- FREQ, with INTERVAL counted from DTSTART, and BYDAY or else what DTSTART says
abbrev pub recurs : Frequency → ℕ → ℕ → ℕ → Bool
recurs Daily interval start number = is_interval interval (number - start)
recurs (Weekly days first) interval start number =
    has_weekday days (weekday_of number) && is_interval interval (weeks_between first start number)
recurs Monthly interval start number =
    is_same_day start number && is_interval interval (months_between start number)
recurs (MonthlyByDay week weekday) interval start number =
    (weekday_of number == weekday)
    && (is_occurrence week (day_at number) && is_interval interval (months_between start number))
recurs Yearly interval start number =
    is_same_day start number
    && (is_same_month start number && is_interval interval (years_between start number))

-- a rule with DTSTART on one day occurs on another one
abbrev pub occurs : Rule → ℕ → ℕ → Bool
occurs rule start number =
    nat_le start number
    && (is_within rule.until number && recurs rule.frequency rule.interval start number)
