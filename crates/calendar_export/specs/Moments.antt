-- Days and times in iCalendar objects (RFC 5545, sections 3.3.4 and 3.3.5), in characters.
use Rattle.std.specs.Prelude.{ℕ, ◌/◌, ◌<◌, List, [], ◌∷◌, ◌++◌, codes}
use Rattle.content_lines.specs.Properties.{PropertyValue, digit, plain_property}
use Rattle.pdb_values.specs.declared.civil.CivilTime.{CivilTime}
use Rattle.pdb_values.specs.CivilTimes.{civil_of}
use Rattle.calendar_export.specs.declared.moment.Moment.{Moment}
use Rattle.palm_records.specs.declared.day.Day.{Day}

-- a day whose parts have four, two and two digits
pub record IsShort (date : Day) : Type 0 where
  pub year : date.year < 10000
  pub month : date.month < 100
  pub day : date.day < 100

-- its last two digits
abbrev pub two_digits : ℕ → List ℕ
two_digits number = digit (number / 10) ∷ digit number ∷ []

-- its last four digits
abbrev pub four_digits : ℕ → List ℕ
four_digits number =
    digit (number / 1000) ∷ digit (number / 100) ∷ digit (number / 10) ∷ digit number ∷ []

-- the year, the month and the day of a day
abbrev pub day_chars : Day → List ℕ
day_chars day = four_digits day.year ++ (two_digits day.month ++ two_digits day.day)

-- the hour, the minute and the second of a time
abbrev pub clock_chars : ℕ → ℕ → ℕ → List ℕ
clock_chars hour minute second = two_digits hour ++ (two_digits minute ++ two_digits second)

-- a civil time as a day and a time of it
abbrev pub moment_of : CivilTime → Moment
moment_of time = record {
  day = record { year = time.year; month = time.month; day = time.day };
  hour = time.hour;
  minute = time.minute;
  second = time.second;
}

-- a day, a T, a time of it and a Z: a time by the universal clock
abbrev pub stamp_chars : Moment → List ℕ
stamp_chars time =
    day_chars time.day
    ++ (codes "T" ++ (clock_chars time.hour time.minute time.second ++ codes "Z"))

-- the time at which the text was made, from the seconds since 1904-01-01T00:00:00
abbrev pub stamp_property : ℕ → PropertyValue
stamp_property made = plain_property (codes "DTSTAMP") (stamp_chars (moment_of (civil_of made)))
