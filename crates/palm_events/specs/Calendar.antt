-- The calendar from 1904-01-01 on, which has number 0: a day by its number, the weeks and months in
-- which it lies.
use Rattle.std.specs.Prelude.{ℕ, ◌+◌, ◌-◌, ◌*◌, ◌/◌, ◌%◌, ◌==◌, ◌&&◌, Bool, nat_le}
use Rattle.pdb_values.specs.CivilTimes.{days_in_month, days_of, place_of}
use Rattle.palm_records.specs.declared.day.Day.{Day}
use Rattle.palm_records.specs.Days.{is_day}

-- the calendar has this day, from 1904 on
abbrev pub is_date : Day → Bool
is_date day = nat_le 1904 day.year && is_day day

-- the days of the month of a number; January 1904 has number 0
abbrev pub month_days : ℕ → ℕ
month_days month = days_in_month (1904 + month / 12) (month % 12 + 1)

-- the number of a day's month
abbrev pub month_number : Day → ℕ
month_number day = (day.year - 1904) * 12 + (day.month - 1)

-- the number of a day: the days of the months before its own, and those before it in its month
unfoldable pub day_number : Day → ℕ
day_number day = days_of month_days 0 (month_number day) + (day.day - 1)

-- the day of a number
unfoldable pub day_at : ℕ → Day
day_at number =
    let place = place_of month_days number 0 number in
    record { year = 1904 + place.0 / 12; month = place.0 % 12 + 1; day = place.1 + 1 }

-- the weekday of a day's number, 0 Sunday to 6 Saturday; 1904-01-01 was a Friday
abbrev pub weekday_of : ℕ → ℕ
weekday_of number = (number + 5) % 7

-- the number of the week in which a day of this number lies, where weeks begin on this weekday
abbrev pub week_number : ℕ → ℕ → ℕ
week_number first number = (number + 12 - first) / 7

-- the weeks from one day's to another's, where weeks begin on this weekday
abbrev pub weeks_between : ℕ → ℕ → ℕ → ℕ
weeks_between first start number = week_number first number - week_number first start

-- the months from one day's to another's
abbrev pub months_between : ℕ → ℕ → ℕ
months_between start number = month_number (day_at number) - month_number (day_at start)

-- the years from one day's to another's
abbrev pub years_between : ℕ → ℕ → ℕ
years_between start number = (day_at number).year - (day_at start).year

-- a day has the day of the month that another one has
abbrev pub is_same_day : ℕ → ℕ → Bool
is_same_day start number = (day_at number).day == (day_at start).day

-- a day has the month that another one has
abbrev pub is_same_month : ℕ → ℕ → Bool
is_same_month start number = (day_at number).month == (day_at start).month
