-- The records of a database as components of an iCalendar object.
use Rattle.std.specs.Prelude.{ℕ, List}
use Rattle.std.specs.List.{flat_map}
use Rattle.palm_records.specs.Tasks.{TaskValue}
use Rattle.content_lines.specs.Properties.{IsBytes, PropertyValue, properties_text}
use Rattle.calendar_export.specs.Components.{IsOrigin, OriginValue, SourceValue, calendar_properties, journal_properties}
use Rattle.calendar_export.specs.Dates.{DateValue, IsDate}
use Rattle.calendar_export.specs.DateProperties.{event_properties}
use Rattle.calendar_export.specs.TaskProperties.{IsTask, todo_properties}
use Rattle.calendar_export.specs.declared.kind.Kind.{Kind}
use Rattle.calendar_export.specs.declared.kind.Kind.TheVariants.{Dates, Tasks}

-- what a record says: a task, a date, or its bytes where it is out of its form
pub data Content : Type 0 where
  todo : TaskValue → Content
  date : DateValue → Content
  unread : List ℕ → Content

-- a record with what it says
pub record Item : Type 0 where
  pub origin : OriginValue
  pub content : Content

-- what a record of a kind can say, in its bounds
abbrev pub IsContent : Kind → Content → Type 0
IsContent Tasks (todo task) = IsTask task
IsContent Tasks (date value) = ⊥
IsContent Tasks (unread bytes) = IsBytes bytes
IsContent Dates (todo task) = ⊥
IsContent Dates (date value) = IsDate value
IsContent Dates (unread bytes) = IsBytes bytes

-- a record of a kind, in its bounds
pub record IsItem (kind : Kind) (item : Item) : Type 0 where
  pub origin : IsOrigin item.origin
  pub content : IsContent kind item.content

-- what a record says as a component
abbrev pub content_properties : SourceValue → OriginValue → Content → List PropertyValue
content_properties source origin (todo task) = todo_properties source origin task
content_properties source origin (date value) = event_properties source origin value
content_properties source origin (unread bytes) = journal_properties source origin bytes

-- a record as a component
abbrev pub item_properties : SourceValue → Item → List PropertyValue
item_properties source item = content_properties source item.origin item.content

-- the properties of the object with these records
abbrev pub calendar_of : SourceValue → List Item → List PropertyValue
calendar_of source items = calendar_properties (flat_map (item_properties source) items)

-- its text
abbrev pub calendar_text : SourceValue → List Item → List ℕ
calendar_text source items = properties_text (calendar_of source items)
