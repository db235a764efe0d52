-- Times of day: hour and minute of the start, hour and minute of the end, or four bytes 0xFF where
-- there is no time (pilot-link's datebook.c).
use Rattle.std.specs.Prelude.{ℕ, ◌==◌, ◌&&◌, Bool, nat_le, List, Option, None, Some, Result, Ok, Err, slice_index, if◌then◌else◌}
use Rattle.palm_events.specs.declared.times.Time.{Time}
use Rattle.palm_events.specs.declared.times.Times.{Times}

-- a clock has this time
abbrev pub is_time : Time → Bool
is_time time = nat_le time.hour 23 && nat_le time.minute 59

-- there is no time
abbrev pub has_no_time : List ℕ → Bool
has_no_time bytes =
    (slice_index bytes 0 == 0xFF) && (slice_index bytes 1 == 0xFF) && (slice_index bytes 2 == 0xFF)
    && (slice_index bytes 3 == 0xFF)

-- the time that two bytes at a place say
abbrev pub start_of : List ℕ → Time
start_of bytes = record { hour = slice_index bytes 0; minute = slice_index bytes 1 }

-- the time at the end
abbrev pub end_of : List ℕ → Time
end_of bytes = record { hour = slice_index bytes 2; minute = slice_index bytes 3 }

-- the times of a record, if it has any, or the place 0 where one is none of a clock
abbrev pub times_in : List ℕ → Result (Option Times) ℕ
times_in bytes =
    if has_no_time bytes then Ok None
    else (if is_time (start_of bytes) && is_time (end_of bytes)
    then Ok (Some (record { start = start_of bytes; end = end_of bytes })) else Err 0)
