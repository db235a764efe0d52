-- Repeats: a byte with the kind, a byte that is not looked at, the last date or 0xFFFF, bytes with
-- the frequency, the days and the first day of the week, and a byte that is not looked at
-- (pilot-link's datebook.c).
use Rattle.std.specs.Prelude.{ℕ, ◌+◌, ◌/◌, ◌%◌, ◌==◌, nat_lt, List, Option, None, Some, Result, Ok, Err, length, option_map, slice_index, if◌then◌else◌}
use Rattle.palm_records.specs.declared.day.Day.{Day}
use Rattle.palm_records.specs.Days.{day_in}
use Rattle.palm_events.specs.declared.flags.Flags.{Flags}
use Rattle.palm_events.specs.declared.repeat.Pattern.{Pattern}
use Rattle.palm_events.specs.declared.repeat.Pattern.TheVariants.{Daily, Weekly, MonthlyByDay, MonthlyByDate, Yearly}
use Rattle.palm_events.specs.declared.repeat.Repeat.{Repeat}
use Rattle.palm_events.specs.declared.repeat.Week.{Week}
use Rattle.palm_events.specs.declared.repeat.Week.TheVariants.{First, Second, Third, Fourth, Last}
use Rattle.palm_events.specs.Alarms.{behind_alarm}
use Rattle.palm_events.specs.Steps.{◌>>=◌, or_place}
use Rattle.palm_events.specs.Words.{word_at}

-- the week that a number says
abbrev pub week_of : ℕ → Week
week_of number =
    if number == 0 then First
    else (if number == 1 then Second
    else (if number == 2 then Third else (if number == 3 then Fourth else Last)))

-- some day of the week: a bit for each, the lowest one for Sunday
abbrev pub weekly : ℕ → ℕ → Option Pattern
weekly on first =
    if on % 128 == 0 then None else Some (Weekly (record { bits = on % 128 }) (first == 1))

-- a day of the month: seven times the week, and the weekday from Sunday on
abbrev pub monthly : ℕ → Option Pattern
monthly on = if nat_lt 34 on then None else Some (MonthlyByDay (week_of (on / 7)) (on % 7))

-- the pattern that a kind and the bytes with the days and with the first day of the week say
abbrev pub pattern_of : ℕ → ℕ → ℕ → Option Pattern
pattern_of kind on first =
    if kind == 1 then Some Daily
    else (if kind == 2 then weekly on first else (if kind == 3 then monthly on
    else (if kind == 4 then Some MonthlyByDate else Some Yearly)))

-- the last date, if there is one
abbrev pub until_in : ℕ → List ℕ → Result (Option Day) ℕ
until_in place bytes =
    if word_at bytes place == 0xFFFF then Ok None
    else or_place place (option_map (λ day. Some day) (day_in (word_at bytes place)))

-- the repeat at a place whose kind is not 0
abbrev pub repeat_of : ℕ → List ℕ → Option Day → Result (Option Repeat) ℕ
repeat_of place bytes until =
    if slice_index bytes (place + 4) == 0 then Err (place + 4)
    else or_place (place + 5)
    (option_map
    (λ pattern. Some
    (record { pattern = pattern; every = slice_index bytes (place + 4); until = until }))
    (pattern_of (slice_index bytes place) (slice_index bytes (place + 5))
    (slice_index bytes (place + 6))))

-- the repeat at a place, or the place of the first rule that it breaks: it is whole, its kind is 0
-- to 5, its last date is a day or there is none, and if its kind isn't 0, its frequency isn't 0 and
-- it has a day
abbrev pub repeat_at : ℕ → List ℕ → Result (Option Repeat) ℕ
repeat_at place bytes =
    if nat_lt (length bytes) (place + 8) then Err (length bytes)
    else (if nat_lt 5 (slice_index bytes place) then Err place
    else (until_in (place + 2) bytes >>=
    (λ until. if slice_index bytes place == 0 then Ok None else repeat_of place bytes until)))

-- the repeat of a record, if it has one
abbrev pub repeat_in : Flags → List ℕ → Result (Option Repeat) ℕ
repeat_in flags bytes = if flags.repeat then repeat_at (behind_alarm flags) bytes else Ok None

-- the place behind the repeat
abbrev pub behind_repeat : Flags → ℕ
behind_repeat flags = if flags.repeat then behind_alarm flags + 8 else behind_alarm flags
