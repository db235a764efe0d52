-- Dates of the Date Book (Palm File Format Specification; pilot-link's datebook.h and datebook.c):
-- four bytes with the times, two with the date, two that say what follows: an alarm, a repeat,
-- exceptions, a description and a note. What follows these is not looked at.
use Rattle.std.specs.Prelude.{ℕ, nat_lt, List, Option, Result, Ok, Err, length, if◌then◌else◌}
use Rattle.palm_records.specs.declared.bad_record.BadRecord.{BadRecord}
use Rattle.palm_records.specs.declared.day.Day.{Day}
use Rattle.palm_records.specs.Days.{day_in}
use Rattle.palm_events.specs.declared.alarm.Alarm.{Alarm}
use Rattle.palm_events.specs.declared.event.Event.{Event}
use Rattle.palm_events.specs.declared.flags.Flags.{Flags}
use Rattle.palm_events.specs.declared.repeat.Repeat.{Repeat}
use Rattle.palm_events.specs.declared.times.Times.{Times}
use Rattle.palm_events.specs.Alarms.{alarm_in}
use Rattle.palm_events.specs.Exceptions.{behind_exceptions, days_in, exceptions_in}
use Rattle.palm_events.specs.Flags.{flags_of}
use Rattle.palm_events.specs.Repeats.{repeat_in}
use Rattle.palm_events.specs.Steps.{◌>>=◌, Reads, or_place}
use Rattle.palm_events.specs.Strings.{behind_text, text_in}
use Rattle.palm_events.specs.Times.{times_in}
use Rattle.palm_events.specs.Words.{word_at}

-- what a record says of a date
pub record EventValue : Type 0 where
  -- when it begins and ends on its day, if it has a time
  pub time : Option Times
  pub date : Day
  -- the alarm, if it rings
  pub alarm : Option Alarm
  pub repeat : Option Repeat
  -- the days on which it does not come again
  pub exceptions : List Day
  pub description : List ℕ
  pub note : List ℕ

-- a date whose texts and exceptions lie in its record
abbrev pub event_value : Event → EventValue
event_value event = record {
  time = event.time;
  date = event.date;
  alarm = event.alarm;
  repeat = event.repeat;
  exceptions = days_in event.exceptions.bytes.now;
  description = event.description.now;
  note = event.note.now;
}

-- the day of a record
abbrev pub date_in : List ℕ → Result Day ℕ
date_in bytes = or_place 4 (day_in (word_at bytes 4))

-- the date of a record that holds its head and has these flags: its parts from the left
unfoldable pub parts_in : Flags → List ℕ → Result EventValue ℕ
parts_in flags bytes = do
  time ← times_in bytes
  date ← date_in bytes
  alarm ← alarm_in flags bytes
  repeat ← repeat_in flags bytes
  days ← exceptions_in flags bytes
  description ← text_in flags.description (behind_exceptions flags days) bytes
  note ← text_in flags.note
      (behind_text flags.description (behind_exceptions flags days) description) bytes
  Ok (record {
    time = time;
    date = date;
    alarm = alarm;
    repeat = repeat;
    exceptions = days_in days;
    description = description;
    note = note;
  })

-- the date of the bytes, or the place of the first rule that they break, from the left
abbrev pub event_in : List ℕ → Result EventValue ℕ
event_in bytes =
    if nat_lt (length bytes) 8 then Err (length bytes)
    else parts_in (flags_of (word_at bytes 6)) bytes

-- the answer is what a reading gives
abbrev pub ReadsEvent : Result Event BadRecord → Result EventValue ℕ → Type 0
ReadsEvent answer said = Reads event_value answer said
