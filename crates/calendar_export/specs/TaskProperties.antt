-- Tasks as components of an iCalendar object (RFC 5545, section 3.6.2), as lists of properties.
use Rattle.std.specs.Prelude.{ℕ, ◌+◌, ◌-◌, ◌*◌, ◌≤◌, Bool, List, [], ◌∷◌, ◌++◌, codes, Option, None, Some, if◌then◌else◌}
use Rattle.palm_records.specs.declared.day.Day.{Day}
use Rattle.palm_records.specs.Tasks.{TaskValue}
use Rattle.content_lines.specs.Properties.{IsBytes, PropertyValue, given_property, plain_property, text_property}
use Rattle.calendar_export.specs.Moments.{IsShort, day_chars}
use Rattle.calendar_export.specs.Components.{OriginValue, SourceValue, begin_of, end_of, head_properties, origin_marks}

-- so is it, where there is one
abbrev pub IsDue : Option Day → Type 0
IsDue None = Unit {0}
IsDue (Some day) = IsShort day

-- a task of a record
pub record IsTask (task : TaskValue) : Type 0 where
  pub due : IsDue task.due
  pub low : 1 ≤ task.priority
  pub high : task.priority ≤ 5
  pub description : IsBytes task.description
  pub note : IsBytes task.note

-- the day on which a task is due, where one is set
abbrev pub due_properties : Option Day → List PropertyValue
due_properties None = []
due_properties (Some day) = plain_property (codes "DUE;VALUE=DATE") (day_chars day) ∷ []

-- the priorities 1 to 5 are 1, 3, 5, 7 and 9 of nine
abbrev pub priority_property : ℕ → PropertyValue
priority_property priority = plain_property (codes "PRIORITY") ((48 + (2 * priority - 1)) ∷ [])

-- whether it is done
abbrev pub status_value : Bool → List ℕ
status_value done = if done then codes "COMPLETED" else codes "NEEDS-ACTION"

-- what a task says
abbrev pub task_properties : TaskValue → List PropertyValue
task_properties task =
    (text_property (codes "SUMMARY") task.description ∷ [])
    ++ (given_property (codes "DESCRIPTION") task.note ++ (due_properties task.due
    ++ priority_property task.priority
    ∷ plain_property (codes "STATUS") (status_value task.done) ∷ []))

-- a task as a component
abbrev pub todo_properties : SourceValue → OriginValue → TaskValue → List PropertyValue
todo_properties source origin task =
    (begin_of (codes "VTODO") ∷ []) ++ (head_properties source origin.id
    ++ (task_properties task ++ (origin_marks origin ++ end_of (codes "VTODO") ∷ [])))
