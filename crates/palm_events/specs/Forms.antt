-- The form of what a record says.
use Rattle.std.specs.Prelude.{◌<◌, ◌&&◌, Bool, List, true, nat_le, nat_lt, IfSome, IsTrue, Option, None, Some}
use Rattle.std.specs.List.{All}
use Rattle.palm_records.specs.declared.day.Day.{Day}
use Rattle.palm_events.specs.declared.repeat.Pattern.{Pattern}
use Rattle.palm_events.specs.declared.repeat.Pattern.TheVariants.{Daily, Weekly, MonthlyByDay, MonthlyByDate, Yearly}
use Rattle.palm_events.specs.declared.repeat.Repeat.{Repeat}
use Rattle.palm_events.specs.declared.times.Times.{Times}
use Rattle.palm_events.specs.Calendar.{is_date}
use Rattle.palm_events.specs.Events.{EventValue}
use Rattle.palm_events.specs.Times.{is_time}

-- the calendar has this day in the years that a word can say
abbrev pub is_record_day : Day → Bool
is_record_day day = nat_le day.year 2031 && is_date day

-- if there is a last day, it is such a one
abbrev pub is_until : Option Day → Bool
is_until None = true
is_until (Some day) = is_record_day day

-- a week has some day, a weekday is one of seven
abbrev pub is_pattern : Pattern → Bool
is_pattern Daily = true
is_pattern (Weekly days from_monday) = nat_lt 0 days.bits && nat_lt days.bits 128
is_pattern (MonthlyByDay week weekday) = nat_lt weekday 7
is_pattern MonthlyByDate = true
is_pattern Yearly = true

-- a frequency is a byte and not 0
abbrev pub is_repeat : Repeat → Bool
is_repeat repeat =
    (nat_lt 0 repeat.every && nat_lt repeat.every 256)
    && (is_pattern repeat.pattern && is_until repeat.until)

-- both times are those of a clock
abbrev pub are_times : Times → Bool
are_times times = is_time times.start && is_time times.end

-- so does it have each of these
abbrev pub AreRecordDays : List Day → Type 0
AreRecordDays days = All (λ day. IsTrue (is_record_day day)) days

-- what holds of each date that was read
pub record IsEvent (event : EventValue) : Type 0 where
  pub times : IfSome event.time (λ times. IsTrue (are_times times))
  pub date : IsTrue (is_record_day event.date)
  pub alarm : IfSome event.alarm (λ alarm. alarm.advance < 128)
  pub repeat : IfSome event.repeat (λ repeat. IsTrue (is_repeat repeat))
  pub exceptions : AreRecordDays event.exceptions
