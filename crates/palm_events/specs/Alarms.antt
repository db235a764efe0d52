-- Alarms: a byte with the advance, negative where the alarm does not ring, and a byte with its unit
-- (pilot-link's datebook.c).
use Rattle.std.specs.Prelude.{ℕ, ◌==◌, nat_le, nat_lt, List, Option, None, Some, Result, Ok, Err, length, slice_index, if◌then◌else◌}
use Rattle.palm_events.specs.declared.alarm.Alarm.{Alarm}
use Rattle.palm_events.specs.declared.alarm.AlarmUnit.{AlarmUnit}
use Rattle.palm_events.specs.declared.alarm.AlarmUnit.TheVariants.{Minutes, Hours, Days}
use Rattle.palm_events.specs.declared.flags.Flags.{Flags}
use Rattle.palm_events.specs.Steps.{◌>>=◌, or_place}

-- the unit that a byte says
abbrev pub unit_of : ℕ → Option AlarmUnit
unit_of byte =
    if byte == 0 then Some Minutes
    else (if byte == 1 then Some Hours else (if byte == 2 then Some Days else None))

-- an advance is a signed byte: from 128 on it is negative, and the alarm does not ring
abbrev pub ringing : ℕ → AlarmUnit → Option Alarm
ringing advance unit =
    if nat_le 128 advance then None else Some (record { advance = advance; unit = unit })

-- the alarm of a record, if it has one that rings
abbrev pub alarm_in : Flags → List ℕ → Result (Option Alarm) ℕ
alarm_in flags bytes =
    if flags.alarm then
    (if nat_lt (length bytes) 10 then Err (length bytes)
    else or_place 9 (unit_of (slice_index bytes 9)) >>=
    (λ unit. Ok (ringing (slice_index bytes 8) unit)))
    else Ok None

-- the place behind the alarm
abbrev pub behind_alarm : Flags → ℕ
behind_alarm flags = if flags.alarm then 10 else 8
