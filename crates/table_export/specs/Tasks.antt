-- The columns of tasks (Palm File Format Specification; pilot-link's todo.h).
use Rattle.std.specs.Prelude.{ℕ, ◌+◌, ◌/◌, ◌%◌, Bool, List, [], ◌∷◌, ◌++◌, Option, None, Some, codes, if◌then◌else◌}
use Rattle.palm_records.specs.declared.day.Day.{Day}
use Rattle.palm_records.specs.Tasks.{TaskValue}
use Rattle.table_export.specs.Tables.{palm_field}

-- the last decimal digit of a number
abbrev pub digit : ℕ → ℕ
digit number = 48 + number % 10

-- its last two digits
abbrev pub two_digits : ℕ → List ℕ
two_digits number = digit (number / 10) ∷ digit number ∷ []

-- its last four digits
abbrev pub four_digits : ℕ → List ℕ
four_digits number = two_digits (number / 100) ++ two_digits number

-- year, month and day with dashes between them
abbrev pub day_text : Day → List ℕ
day_text day =
    four_digits day.year
    ++ (codes "-" ++ (two_digits day.month ++ (codes "-" ++ two_digits day.day)))

-- the day on which a task is due, if any is set
abbrev pub due_text : Option Day → List ℕ
due_text None = []
due_text (Some day) = day_text day

-- the mark of a task that is done
abbrev pub done_text : Bool → List ℕ
done_text done = if done then codes "done" else []

-- the columns of a task
abbrev pub task_columns : TaskValue → List (List ℕ)
task_columns task =
    due_text task.due ∷ done_text task.done ∷ (digit task.priority ∷ [])
    ∷ palm_field task.description ∷ palm_field task.note ∷ []

-- the names of the columns of tasks
abbrev pub task_names : List (List ℕ)
task_names =
    codes "due" ∷ codes "done" ∷ codes "priority"
    ∷ codes "description" ∷ codes "note" ∷ []
