-- Tasks (Palm File Format Specification; pilot-link's todo.h): two bytes with the day on which a
-- task is due, or 0xFFFF; a byte whose top bit says that it is done, over the priority, 1 to 5; a
-- description and a note, each ended by a zero byte. What follows is not looked at.
use Rattle.std.specs.Prelude.{◌≡◌, Result, Ok, Err, ℕ, suc, ◌+◌, ◌%◌, ◌==◌, ◌&&◌, Bool, true, false, List, Option, None, Some, drop, length, nat_le, nat_lt, option_map, slice_index, if◌then◌else◌}
use Rattle.byteorder.specs.Endian.{big_number}
use Rattle.palm_records.specs.declared.day.Day.{Day}
use Rattle.palm_records.specs.declared.bad_record.BadRecord.{BadRecord}
use Rattle.palm_records.specs.declared.task.Task.{Task}
use Rattle.palm_records.specs.Days.{day_in}
use Rattle.palm_records.specs.Strings.{behind_string, first_zero, until_zero}

-- what a record says of a task
pub record TaskValue : Type 0 where
  -- the day on which it is due, if any is set
  pub due : Option Day
  pub done : Bool
  pub priority : ℕ
  pub description : List ℕ
  pub note : List ℕ

-- a task whose texts lie in its record
abbrev pub task_value : Task → TaskValue
task_value task = record {
  due = task.due;
  done = task.done;
  priority = task.priority;
  description = task.description.now;
  note = task.note.now;
}

-- the word that says that no day is set
abbrev pub no_day : ℕ
no_day = 0xFFFF

-- the word with the day
abbrev pub due_word : List ℕ → ℕ
due_word bytes = big_number 2 bytes

-- the day is one of the calendar, or none is set
abbrev pub is_due : ℕ → Bool
is_due word = if word == no_day then true else is_there (day_in word)
  where
    is_there : Option Day → Bool
    is_there (Some day) = true
    is_there None = false

-- the day that the word sets
abbrev pub due_of : ℕ → Option Day
due_of word = if word == no_day then None else day_in word

-- the priority under the top bit
abbrev pub priority_of : ℕ → ℕ
priority_of mark = mark % 128

-- the priority is one of the five
abbrev pub is_priority : ℕ → Bool
is_priority priority = nat_le 1 priority && nat_le priority 5

-- the task of the bytes
abbrev pub task_of : List ℕ → TaskValue
task_of bytes = record {
  due = due_of (due_word bytes);
  done = nat_le 128 (slice_index bytes 2);
  priority = priority_of (slice_index bytes 2);
  description = until_zero (drop 3 bytes);
  note = until_zero (behind_string (drop 3 bytes));
}

-- where the second of two strings begins, the first of which begins at this place, if that one is
-- ended
abbrev pub second_fault : ℕ → Option ℕ → Option ℕ
second_fault place (Some found) = None
second_fault place None = Some place

-- the place of the first of two strings that no zero byte ends
abbrev pub strings_fault : ℕ → List ℕ → Option ℕ
strings_fault place bytes = at_first (first_zero bytes)
  where
    at_first : Option ℕ → Option ℕ
    at_first None = Some place
    at_first (Some found) = second_fault (place + suc found) (first_zero (behind_string bytes))

-- the place of the first rule that the bytes break: they hold the head, the day is one, the
-- priority is one of five, both strings are ended
abbrev pub task_fault : List ℕ → Option ℕ
task_fault bytes =
    if nat_lt (length bytes) 3 then Some (length bytes)
    else (if is_due (due_word bytes) then
    (if is_priority (priority_of (slice_index bytes 2)) then strings_fault 3 (drop 3 bytes)
    else Some 2)
    else Some 0)

-- the place that a fault names
abbrev pub place_of : Option BadRecord → Option ℕ
place_of = option_map (λ fault. fault.place)

-- the task, if nothing is out of the form
abbrev pub or_task : List ℕ → Option ℕ → Result TaskValue ℕ
or_task bytes (Some place) = Err place
or_task bytes None = Ok (task_of bytes)

-- the task of the bytes, or the place of the first rule that they break
abbrev pub task_in : List ℕ → Result TaskValue ℕ
task_in bytes = or_task bytes (task_fault bytes)

-- the answer is what a reading gives
abbrev pub ReadsTask : Result Task BadRecord → Result TaskValue ℕ → Type 0
ReadsTask (Ok task) said = said ≡ Ok (task_value task)
ReadsTask (Err bad) said = said ≡ Err bad.place
