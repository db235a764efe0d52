-- What an iCalendar object says of a date of the Date Book.
use Rattle.std.specs.Prelude.{◌≡◌, ℕ, ◌<◌, ◌==◌, ◌&&◌, Bool, true, List, [], Option, None, Some, option_map, unwrap_or, if◌then◌else◌}
use Rattle.std.specs.List.{All}
use Rattle.palm_records.specs.declared.day.Day.{Day}
use Rattle.palm_events.specs.declared.alarm.Alarm.{Alarm}
use Rattle.palm_events.specs.declared.rule.Frequency.{Frequency}
use Rattle.palm_events.specs.declared.rule.Frequency.TheVariants.{Daily, Weekly, Monthly, MonthlyByDay, Yearly}
use Rattle.palm_events.specs.declared.rule.Rule.{Rule}
use Rattle.palm_events.specs.declared.times.Times.{Times}
use Rattle.palm_events.specs.Calendar.{day_at}
use Rattle.palm_events.specs.Events.{EventValue}
use Rattle.palm_events.specs.Forms.{are_times}
use Rattle.palm_events.specs.RecordRules.{rule_of}
use Rattle.palm_events.specs.Shown.{first_shown}
use Rattle.content_lines.specs.Properties.{IsBytes}
use Rattle.calendar_export.specs.Moments.{IsShort}

-- a date: the day on which it begins, its times, its rule and the days on which that does not hold,
-- the day of its record where that is another one, its alarm, its texts
pub record DateValue : Type 0 where
  pub start : Day
  pub time : Option Times
  pub rule : Option Rule
  pub exceptions : List Day
  pub own : Option Day
  pub alarm : Option Alarm
  pub description : List ℕ
  pub note : List ℕ

-- the first day that a record shows, or its own where it shows none
abbrev pub start_of : EventValue → Day
start_of event = unwrap_or (option_map day_at (first_shown event)) event.date

-- exceptions stand only beside a rule
abbrev pub exceptions_of : Option Rule → List Day → List Day
exceptions_of None days = []
exceptions_of (Some rule) days = days

-- two days are the same
abbrev pub is_same : Day → Day → Bool
is_same one other =
    (one.year == other.year) && ((one.month == other.month) && (one.day == other.day))

-- the day of a record, where the date begins on another one
abbrev pub own_of : Day → Day → Option Day
own_of start own = if is_same start own then None else Some own

-- what is said of a record
abbrev pub date_of : EventValue → DateValue
date_of event = record {
  start = start_of event;
  time = event.time;
  rule = rule_of event;
  exceptions = exceptions_of (rule_of event) event.exceptions;
  own = own_of (start_of event) event.date;
  alarm = event.alarm;
  description = event.description;
  note = event.note;
}

-- so is it, where there is one
abbrev pub IsDay : Option Day → Type 0
IsDay None = Unit {0}
IsDay (Some day) = IsShort day

-- both times are those of a clock
abbrev pub IsTimes : Option Times → Type 0
IsTimes None = Unit {0}
IsTimes (Some times) = are_times times ≡ true

-- weekdays are those of a week
abbrev pub IsFrequency : Frequency → Type 0
IsFrequency Daily = Unit {0}
IsFrequency (Weekly days first) = (days.bits < 128) × (first < 7)
IsFrequency Monthly = Unit {0}
IsFrequency (MonthlyByDay week weekday) = weekday < 7
IsFrequency Yearly = Unit {0}

-- a rule in its bounds
pub record IsRule (rule : Rule) : Type 0 where
  pub interval : rule.interval < 256
  pub frequency : IsFrequency rule.frequency
  pub until : IsDay rule.until

-- so is it, where there is one
abbrev pub IsRuled : Option Rule → Type 0
IsRuled None = Unit {0}
IsRuled (Some rule) = IsRule rule

-- an advance is one of a signed byte that is not negative
abbrev pub IsAlarm : Option Alarm → Type 0
IsAlarm None = Unit {0}
IsAlarm (Some alarm) = alarm.advance < 128

-- a date in its bounds
pub record IsDate (date : DateValue) : Type 0 where
  pub start : IsShort date.start
  pub time : IsTimes date.time
  pub rule : IsRuled date.rule
  pub exceptions : All IsShort date.exceptions
  pub own : IsDay date.own
  pub alarm : IsAlarm date.alarm
  pub description : IsBytes date.description
  pub note : IsBytes date.note
