-- Rules of recurrence (RFC 5545, section 3.3.10), in characters.
use Rattle.std.specs.Prelude.{ℕ, zero, suc, ◌+◌, ◌/◌, ◌==◌, Bool, true, false, nat_lt, List, [], ◌∷◌, ◌++◌, codes, Option, None, Some, if◌then◌else◌}
use Rattle.palm_records.specs.declared.day.Day.{Day}
use Rattle.palm_events.specs.declared.repeat.Week.{Week}
use Rattle.palm_events.specs.declared.repeat.Week.TheVariants.{First, Second, Third, Fourth, Last}
use Rattle.palm_events.specs.declared.repeat.Weekdays.{Weekdays}
use Rattle.palm_events.specs.declared.rule.Frequency.{Frequency}
use Rattle.palm_events.specs.declared.rule.Frequency.TheVariants.{Daily, Weekly, Monthly, MonthlyByDay, Yearly}
use Rattle.palm_events.specs.declared.rule.Rule.{Rule}
use Rattle.palm_events.specs.Shown.{has_weekday}
use Rattle.content_lines.specs.Properties.{PropertyValue, digit, plain_property}
use Rattle.calendar_export.specs.Moments.{day_chars, two_digits}

-- a number below 1000 without zeros in front
abbrev pub number_chars : ℕ → List ℕ
number_chars number =
    if nat_lt number 10 then digit number ∷ []
    else (if nat_lt number 100 then two_digits number else digit (number / 100) ∷ two_digits number)

-- a weekday, from 0 Sunday to 6 Saturday
abbrev pub weekday_chars : ℕ → List ℕ
weekday_chars weekday =
    if weekday == 0 then codes "SU"
    else (if weekday == 1 then codes "MO" else (if weekday == 2 then codes "TU"
    else (if weekday == 3 then codes "WE"
    else (if weekday == 4 then codes "TH" else (if weekday == 5 then codes "FR" else codes "SA")))))

-- a comma behind others
abbrev pub comma : Bool → List ℕ
comma some = if some then codes "," else []

-- the days of a week among so many weekdays from one on, with commas between them and in front
-- where there are some before
unfoldable pub weekdays_from : Weekdays → ℕ → ℕ → Bool → List ℕ
weekdays_from days zero weekday some = []
weekdays_from days (suc more) weekday some =
    if has_weekday days weekday
    then (comma some ++ weekday_chars weekday) ++ weekdays_from days more (weekday + 1) true
    else weekdays_from days more (weekday + 1) some

-- all seven
abbrev pub weekdays_chars : Weekdays → List ℕ
weekdays_chars days = weekdays_from days 7 0 false

-- which one of a month's
abbrev pub week_chars : Week → List ℕ
week_chars First = codes "1"
week_chars Second = codes "2"
week_chars Third = codes "3"
week_chars Fourth = codes "4"
week_chars Last = codes "-1"

-- the unit in which a rule counts
abbrev pub frequency_chars : Frequency → List ℕ
frequency_chars Daily = codes "DAILY"
frequency_chars (Weekly days first) = codes "WEEKLY"
frequency_chars Monthly = codes "MONTHLY"
frequency_chars (MonthlyByDay week weekday) = codes "MONTHLY"
frequency_chars Yearly = codes "YEARLY"

-- the days in each
abbrev pub days_chars : Frequency → List ℕ
days_chars Daily = []
days_chars (Weekly days first) =
    codes ";BYDAY=" ++ (weekdays_chars days ++ (codes ";WKST=" ++ weekday_chars first))
days_chars Monthly = []
days_chars (MonthlyByDay week weekday) =
    codes ";BYDAY=" ++ (week_chars week ++ weekday_chars weekday)
days_chars Yearly = []

-- the end of a day, where the date has a time
abbrev pub day_end : Bool → List ℕ
day_end timed = if timed then codes "T235959" else []

-- the last day, if there is one, as a day or a time of the same kind as the start's
abbrev pub until_chars : Bool → Option Day → List ℕ
until_chars timed None = []
until_chars timed (Some day) = codes ";UNTIL=" ++ (day_chars day ++ day_end timed)

-- a rule of a date that has a time or not
abbrev pub rule_value : Bool → Rule → List ℕ
rule_value timed rule =
    codes "FREQ="
    ++ (frequency_chars rule.frequency ++ (codes ";INTERVAL=" ++ (number_chars rule.interval
    ++ (days_chars rule.frequency ++ until_chars timed rule.until))))

-- the property of a rule, if there is one
abbrev pub rule_properties : Bool → Option Rule → List PropertyValue
rule_properties timed None = []
rule_properties timed (Some rule) = plain_property (codes "RRULE") (rule_value timed rule) ∷ []
