-- Dates as components of an iCalendar object (RFC 5545, section 3.6.1), as lists of properties.
use Rattle.std.specs.Prelude.{ℕ, ◌+◌, ◌*◌, ◌==◌, ◌&&◌, Bool, nat_lt, List, [], ◌∷◌, ◌++◌, codes, map, Option, None, Some, if◌then◌else◌}
use Rattle.std.specs.Option.{is_some}
use Rattle.palm_records.specs.declared.day.Day.{Day}
use Rattle.palm_events.specs.declared.alarm.Alarm.{Alarm}
use Rattle.palm_events.specs.declared.alarm.AlarmUnit.{AlarmUnit}
use Rattle.palm_events.specs.declared.alarm.AlarmUnit.TheVariants.{Minutes, Hours, Days}
use Rattle.palm_events.specs.declared.times.Time.{Time}
use Rattle.palm_events.specs.declared.times.Times.{Times}
use Rattle.palm_events.specs.Calendar.{day_at, day_number}
use Rattle.content_lines.specs.Properties.{PropertyValue, given_property, plain_property, text_property}
use Rattle.calendar_export.specs.Components.{OriginValue, SourceValue, begin_of, end_of, head_properties, origin_marks}
use Rattle.calendar_export.specs.Dates.{DateValue}
use Rattle.calendar_export.specs.Moments.{clock_chars, day_chars}
use Rattle.calendar_export.specs.RuleValues.{number_chars, rule_properties}

-- a day and a time of it, by the clock of the place where it is read
abbrev pub time_chars : Day → Time → List ℕ
time_chars day time = day_chars day ++ (codes "T" ++ clock_chars time.hour time.minute 0)

-- a day alone is marked in a property's name
abbrev pub day_mark : Option Times → List ℕ
day_mark None = codes ";VALUE=DATE"
day_mark (Some times) = []

-- a day, with the time at which the date begins, if it has one
abbrev pub day_value : Option Times → Day → List ℕ
day_value None day = day_chars day
day_value (Some times) day = time_chars day times.start

-- a property with that
abbrev pub day_property : List ℕ → Option Times → Day → PropertyValue
day_property name time day = plain_property (name ++ day_mark time) (day_value time day)

-- a property of a day, if there is one
abbrev pub exception_properties : (Day → PropertyValue) → Option Day → List PropertyValue
exception_properties property None = []
exception_properties property (Some day) = property day ∷ []

-- a time is before another one of its day
abbrev pub is_before : Time → Time → Bool
is_before one other = nat_lt (60 * one.hour + one.minute) (60 * other.hour + other.minute)

-- the day on which a date ends: the next one where it ends before it begins
abbrev pub end_day : Day → Times → Day
end_day start times =
    if is_before times.end times.start then day_at (day_number start + 1) else start

-- two times are the same
abbrev pub is_same_time : Times → Bool
is_same_time times =
    (times.start.hour == times.end.hour) && (times.start.minute == times.end.minute)

-- the end, where it isn't the start
abbrev pub end_properties : Day → Option Times → List PropertyValue
end_properties start None = []
end_properties start (Some times) =
    if is_same_time times then []
    else plain_property (codes "DTEND") (time_chars (end_day start times) times.end) ∷ []

-- the day of the record, where it isn't that on which the date begins
abbrev pub own_properties : Option Day → List PropertyValue
own_properties None = []
own_properties (Some day) = plain_property (codes "X-PALM-DATE") (day_chars day) ∷ []

-- what stands before a number of minutes, hours or days
abbrev pub unit_mark : AlarmUnit → List ℕ
unit_mark Minutes = codes "-PT"
unit_mark Hours = codes "-PT"
unit_mark Days = codes "-P"

-- and behind it
abbrev pub unit_letter : AlarmUnit → List ℕ
unit_letter Minutes = codes "M"
unit_letter Hours = codes "H"
unit_letter Days = codes "D"

-- how long an alarm rings before the start
abbrev pub trigger_value : Alarm → List ℕ
trigger_value alarm =
    unit_mark alarm.unit ++ (number_chars alarm.advance ++ unit_letter alarm.unit)

-- the alarm, with the date's description
abbrev pub alarm_properties : List ℕ → Option Alarm → List PropertyValue
alarm_properties description None = []
alarm_properties description (Some alarm) =
    begin_of (codes "VALARM") ∷ plain_property (codes "ACTION") (codes "DISPLAY")
    ∷ text_property (codes "DESCRIPTION") description
    ∷ plain_property (codes "TRIGGER") (trigger_value alarm) ∷ end_of (codes "VALARM") ∷ []

-- when a date is
abbrev pub when_properties : DateValue → List PropertyValue
when_properties date =
    (day_property (codes "DTSTART") date.time date.start ∷ [])
    ++ (end_properties date.start date.time ++ (rule_properties (is_some date.time) date.rule
    ++ (map (day_property (codes "EXDATE") date.time) date.exceptions ++ own_properties date.own)))

-- what it is
abbrev pub what_properties : DateValue → List PropertyValue
what_properties date =
    (text_property (codes "SUMMARY") date.description ∷ [])
    ++ given_property (codes "DESCRIPTION") date.note

-- a date as a component
abbrev pub event_properties : SourceValue → OriginValue → DateValue → List PropertyValue
event_properties source origin date =
    (begin_of (codes "VEVENT") ∷ []) ++ (head_properties source origin.id ++ (when_properties date
    ++ (what_properties date ++ (origin_marks origin
    ++ (alarm_properties date.description date.alarm ++ end_of (codes "VEVENT") ∷ [])))))
