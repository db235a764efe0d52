-- Exceptions: two bytes with their number, and two bytes with the day of each (pilot-link's
-- datebook.c).
use Rattle.std.specs.Prelude.{ℕ, zero, suc, ◌+◌, ◌*◌, ◌/◌, nat_lt, List, [], Option, None, Some, Result, Ok, Err, drop, length, map, take, if◌then◌else◌}
use Rattle.std.specs.List.{range_with_len}
use Rattle.palm_records.specs.declared.day.Day.{Day}
use Rattle.palm_records.specs.Days.{day_of, is_day}
use Rattle.palm_events.specs.declared.flags.Flags.{Flags}
use Rattle.palm_events.specs.Repeats.{behind_repeat}
use Rattle.palm_events.specs.Words.{word_at}

-- the days that bytes say, two bytes each
abbrev pub days_in : List ℕ → List Day
days_in bytes =
    map (λ index. day_of (word_at bytes (2 * index))) (range_with_len 0 (length bytes / 2))

-- the place of the first of so many days from a place on that the calendar does not have
unfoldable pub days_fault : ℕ → ℕ → List ℕ → Option ℕ
days_fault zero place bytes = None
days_fault (suc count) place bytes =
    if is_day (day_of (word_at bytes place)) then days_fault count (place + 2) bytes else Some place

-- the bytes, if nothing is out of the form
abbrev pub or_bytes : List ℕ → Option ℕ → Result (List ℕ) ℕ
or_bytes bytes (Some place) = Err place
or_bytes bytes None = Ok bytes

-- the bytes of so many days from a place on
abbrev pub days_at : ℕ → ℕ → List ℕ → Result (List ℕ) ℕ
days_at count place bytes =
    if nat_lt (length bytes) (place + 2 * count) then Err (length bytes)
    else or_bytes (take (2 * count) (drop place bytes)) (days_fault count place bytes)

-- the bytes of the days at a place, or the place of the first rule that is broken: they are whole,
-- and the calendar has each day
abbrev pub exceptions_at : ℕ → List ℕ → Result (List ℕ) ℕ
exceptions_at place bytes =
    if nat_lt (length bytes) (place + 2) then Err (length bytes)
    else days_at (word_at bytes place) (place + 2) bytes

-- the bytes of a record's exceptions
abbrev pub exceptions_in : Flags → List ℕ → Result (List ℕ) ℕ
exceptions_in flags bytes =
    if flags.exceptions then exceptions_at (behind_repeat flags) bytes else Ok []

-- the place behind exceptions with these bytes
abbrev pub behind_exceptions : Flags → List ℕ → ℕ
behind_exceptions flags days =
    if flags.exceptions then behind_repeat flags + 2 + length days else behind_repeat flags
