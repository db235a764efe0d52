-- Civil dates and times from 1904 on, and the seconds from 1904-01-01T00:00:00 to them (Palm File
-- Format Specification, dates).
use Rattle.std.specs.Prelude.{ℕ, zero, suc, ◌+◌, ◌-◌, ◌*◌, ◌/◌, ◌%◌, ◌==◌, Bool, not, ◌&&◌, ◌||◌, nat_lt, nat_le, if◌then◌else◌}
use Rattle.pdb_values.specs.declared.civil.CivilTime.{CivilTime}

-- every fourth year, but of the centuries only every fourth
abbrev pub is_leap_year : ℕ → Bool
is_leap_year year = (year % 4 == 0) && (not (year % 100 == 0) || (year % 400 == 0))

-- a leap year has 366 days, another year 365
abbrev pub days_in_year : ℕ → ℕ
days_in_year year = if is_leap_year year then 366 else 365

-- thirty days have September, April, June and November
abbrev pub days_in_month : ℕ → ℕ → ℕ
days_in_month year month =
    if month == 2 then (if is_leap_year year then 29 else 28)
    else (if (month == 4) || (month == 6) || (month == 9) || (month == 11) then 30 else 31)

-- the days of so many years or months, from this one on, where each has its length
unfoldable pub days_of : (ℕ → ℕ) → ℕ → ℕ → ℕ
days_of length_of first zero = 0
days_of length_of first (suc count) = length_of first + days_of length_of (suc first) count

-- the days from 1904-01-01 to a date
abbrev pub days_before : CivilTime → ℕ
days_before time =
    days_of days_in_year 1904 (time.year - 1904)
    + days_of (days_in_month time.year) 1 (time.month - 1) + (time.day - 1)

-- the seconds from 1904-01-01T00:00:00 to a date and time
abbrev pub seconds_of : CivilTime → ℕ
seconds_of time = days_before time * 86400 + time.hour * 3600 + time.minute * 60 + time.second

-- the calendar has this date, in the years from 1904 to 2040, and a clock this time
abbrev pub is_civil : CivilTime → Bool
is_civil time =
    (nat_le 1904 time.year && nat_le time.year 2040)
    && (nat_le 1 time.month && nat_le time.month 12) &&
    (nat_le 1 time.day && nat_le time.day (days_in_month time.year time.month))
    && nat_lt time.hour 24 && nat_lt time.minute 60 && nat_lt time.second 60

-- from this year or month on, the one in which the day of this number lies (the first has number
-- 0), and its number there
unfoldable pub place_of : (ℕ → ℕ) → ℕ → ℕ → ℕ → ℕ × ℕ
place_of length_of zero first day = (first, day)
place_of length_of (suc more) first day =
    if nat_lt day (length_of first) then (first, day)
    else place_of length_of more (suc first) (day - length_of first)

-- the date and time that many seconds after 1904-01-01T00:00:00
unfoldable pub civil_of : ℕ → CivilTime
civil_of seconds =
    let year = place_of days_in_year (seconds / 86400) 1904 (seconds / 86400) in
    let month = place_of (days_in_month year.0) 11 1 year.1 in
    record {
      year = year.0;
      month = month.0;
      day = month.1 + 1;
      hour = seconds / 3600 % 24;
      minute = seconds / 60 % 60;
      second = seconds % 60;
    }
