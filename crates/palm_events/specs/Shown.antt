-- The days that a record shows (Palm's sample of the Date Book; pilot-link's datebook.h): each so
-- many days, weeks, months or years from its own date on, up to its last date.
use Rattle.std.specs.Prelude.{◌≡◌, ℕ, zero, suc, ◌+◌, ◌-◌, ◌/◌, ◌%◌, ◌^◌, ◌<◌, ◌==◌, ◌&&◌, Bool, true, false, nat_le, nat_lt, Option, None, Some, option_map, if◌then◌else◌}
use Rattle.pdb_values.specs.CivilTimes.{days_in_month}
use Rattle.palm_records.specs.declared.day.Day.{Day}
use Rattle.palm_events.specs.declared.repeat.Pattern.{Pattern}
use Rattle.palm_events.specs.declared.repeat.Pattern.TheVariants.{Daily, Weekly, MonthlyByDay, MonthlyByDate, Yearly}
use Rattle.palm_events.specs.declared.repeat.Repeat.{Repeat}
use Rattle.palm_events.specs.declared.repeat.Week.{Week}
use Rattle.palm_events.specs.declared.repeat.Week.TheVariants.{First, Second, Third, Fourth, Last}
use Rattle.palm_events.specs.declared.repeat.Weekdays.{Weekdays}
use Rattle.palm_events.specs.Calendar.{day_at, day_number, is_same_day, is_same_month, months_between, weekday_of, weeks_between, years_between}
use Rattle.palm_events.specs.Events.{EventValue}

-- a weekday is one of these
abbrev pub has_weekday : Weekdays → ℕ → Bool
has_weekday days weekday = days.bits / 2 ^ weekday % 2 == 1

-- of the days of a month that fall on one weekday, seven apart, this is the one that a week means
abbrev pub is_week : Week → Day → Bool
is_week First day = (day.day - 1) / 7 == 0
is_week Second day = (day.day - 1) / 7 == 1
is_week Third day = (day.day - 1) / 7 == 2
is_week Fourth day = (day.day - 1) / 7 == 3
is_week Last day = nat_lt (days_in_month day.year day.month) (day.day + 7)

-- so many are a multiple of the frequency
abbrev pub is_turn : ℕ → ℕ → Bool
is_turn every count = count % every == 0

-- the weekday with which weeks begin
abbrev pub first_weekday : Bool → ℕ
first_weekday from_monday = if from_monday then 1 else 0

-- the pattern with a frequency that begins on one day has another one
abbrev pub has_day : Pattern → ℕ → ℕ → ℕ → Bool
has_day Daily every start number = is_turn every (number - start)
has_day (Weekly days from_monday) every start number =
    has_weekday days (weekday_of number)
    && is_turn every (weeks_between (first_weekday from_monday) start number)
has_day (MonthlyByDay week weekday) every start number =
    (weekday_of number == weekday)
    && (is_week week (day_at number) && is_turn every (months_between start number))
has_day MonthlyByDate every start number =
    is_same_day start number && is_turn every (months_between start number)
has_day Yearly every start number =
    is_same_day start number
    && (is_same_month start number && is_turn every (years_between start number))

-- a number is not behind the last one
abbrev pub is_up_to : Option ℕ → ℕ → Bool
is_up_to None number = true
is_up_to (Some last) number = nat_le number last

-- the number of the last day
abbrev pub last_number : Option Day → Option ℕ
last_number until = option_map day_number until

-- from the day of this number on, a repeat has the day of another one
abbrev pub repeats : Option Repeat → ℕ → ℕ → Bool
repeats None start number = number == start
repeats (Some repeat) start number =
    is_up_to (last_number repeat.until) number && has_day repeat.pattern repeat.every start number

-- a record shows the day of a number
unfoldable pub shows : EventValue → ℕ → Bool
shows event number =
    nat_le (day_number event.date) number && repeats event.repeat (day_number event.date) number

-- it shows this day, and none before it
pub record IsFirstShown (event : EventValue) (number : ℕ) : Type 0 where
  pub shown : shows event number ≡ true
  pub first : (earlier : ℕ) → earlier < number → shows event earlier ≡ false

-- the first of so many numbers from one on that a test takes
unfoldable pub first_from : (ℕ → Bool) → ℕ → ℕ → Option ℕ
first_from test zero number = None
first_from test (suc more) number =
    if test number then Some number else first_from test more (number + 1)

-- the first day that a record shows: within 8000 days from its date, if there is any
unfoldable pub first_shown : EventValue → Option ℕ
first_shown event = first_from (shows event) 8000 (day_number event.date)
