-- Days in records (Palm File Format Specification; pilot-link's datebook.c): from the top seven
-- bits with the years since 1904, four with the month, five with the day.
use Rattle.std.specs.Prelude.{ℕ, ◌+◌, ◌/◌, ◌%◌, ◌&&◌, Bool, nat_le, Option, None, Some, if◌then◌else◌}
use Rattle.pdb_values.specs.CivilTimes.{days_in_month}
use Rattle.palm_records.specs.declared.day.Day.{Day}

-- the day that a word says
abbrev pub day_of : ℕ → Day
day_of word = record { year = 1904 + word / 512; month = word / 32 % 16; day = word % 32 }

-- the calendar has this day
abbrev pub is_day : Day → Bool
is_day day =
    (nat_le 1 day.month && nat_le day.month 12)
    && (nat_le 1 day.day && nat_le day.day (days_in_month day.year day.month))

-- the day that a word says, where the calendar has it
abbrev pub day_in : ℕ → Option Day
day_in word = if is_day (day_of word) then Some (day_of word) else None
