-- A task that is read is in its bounds.
use Rattle.std.proofs.lemmas.Bool.Decides.{nat_tests}
use Rattle.std.proofs.Common.{arith, ◌≡◌, ◌<◌, ◌==◌, cond, refl, ℕ, Bool, true, false, List, Option, None, Some, drop, length}
use Rattle.std.specs.Prelude.{nat_lt, slice_index}
use Rattle.palm_records.specs.Days.{day_of, is_day}
use Rattle.palm_records.specs.Strings.{behind_string, first_zero}
use Rattle.palm_records.specs.Tasks.{due_of, due_word, is_due, is_priority, no_day, or_task, priority_of, strings_fault, task_fault, task_of}
use Rattle.content_lines.specs.Properties.{IsBytes}
use Rattle.content_lines.proofs.ByteLaws.{IsBytes-back, IsBytes-drop, IsBytes-front}
use Rattle.calendar_export.specs.TaskProperties.{IsDue, IsTask}
use Rattle.calendar_export.specs.Items.{IsContent}
use Rattle.calendar_export.specs.Moments.{IsShort}
use Rattle.calendar_export.specs.declared.kind.Kind.TheVariants.{Tasks}
use Rattle.calendar_export.specs.Exports.{content_in, task_or}

-- ---- the day

pub short_day : (word : ℕ) → word < 65536 → IsShort (day_of word)
short_day word small = record { year = omega arith; month = omega arith; day = omega arith }

short_due : (b d : Bool) (word : ℕ) → word < 65536 → IsDue (cond b None (cond d (Some (day_of word)) None))
short_due true d word small = tt
short_due false true word small = short_day word small
short_due false false word small = tt

due_form : (bytes : List ℕ) → IsBytes bytes → IsDue (due_of (due_word bytes))
due_form bytes h = short_due (due_word bytes == no_day) (is_day (day_of (due_word bytes))) (due_word bytes) (let a = h 0 in let b = h 1 in omega arith)

-- ---- the priority

no_fault : (short due priority : Bool) (length place : ℕ) (strings : Option ℕ)
    → cond short (Some length) (cond due (cond priority strings (Some 2)) (Some 0)) ≡ None → priority ≡ true
no_fault true due priority length place strings e = cc
no_fault false false priority length place strings e = cc
no_fault false true true length place strings e = refl
no_fault false true false length place strings e = cc

priority_form : (bytes : List ℕ) → task_fault bytes ≡ None → is_priority (priority_of (slice_index bytes 2)) ≡ true
priority_form bytes e =
    no_fault (nat_lt (length bytes) 3) (is_due (due_word bytes)) (is_priority (priority_of (slice_index bytes 2))) (length bytes) 0
    (strings_fault 3 (drop 3 bytes)) e

-- ---- a task

task_form : (bytes : List ℕ) → IsBytes bytes → task_fault bytes ≡ None → IsTask (task_of bytes)
task_form bytes h e =
    let is = priority_form bytes e in
    record {
      due = due_form bytes h;
      low = grind (arith, nat_tests, is);
      high = grind (arith, nat_tests, is);
      description = IsBytes-front (first_zero (drop 3 bytes)) (drop 3 bytes) (IsBytes-drop 3 bytes h);
      note =
          let rest = behind_string (drop 3 bytes) in
          IsBytes-front (first_zero rest) rest (IsBytes-back (first_zero (drop 3 bytes)) (drop 3 bytes) (IsBytes-drop 3 bytes h));
    }

by_fault : (fault : Option ℕ) (bytes : List ℕ) → IsBytes bytes → task_fault bytes ≡ fault → IsContent Tasks (task_or bytes (or_task bytes fault))
by_fault None bytes h e = task_form bytes h e
by_fault (Some place) bytes h e = h

-- what a task's record says, or its bytes
pub task-content : (bytes : List ℕ) → IsBytes bytes → IsContent Tasks (content_in Tasks bytes)
task-content bytes h = by_fault (task_fault bytes) bytes h refl
