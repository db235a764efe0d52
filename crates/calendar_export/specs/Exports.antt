-- The records that are exported of a database (Palm File Format Specification; pilot-link's todo.h
-- and datebook.h).
use Rattle.std.specs.Prelude.{◌≡◌, ℕ, Bool, true, List, [], codes, filter, map, Option, Some, Result, Ok, Err, if◌then◌else◌}
use Rattle.std.specs.Result.{result_err}
use Rattle.pdb_values.specs.declared.head.DbHead.{DbHead}
use Rattle.pdb_values.specs.declared.record.Record.{Record}
use Rattle.pdb_values.specs.Databases.{DatabaseValue}
use Rattle.pdb_values.specs.Stems.{stem_of}
use Rattle.palm_records.specs.Tasks.{TaskValue, task_in}
use Rattle.palm_events.specs.Events.{EventValue, event_in}
use Rattle.palm_records.specs.declared.choice.BrokenRecords.{BrokenRecords}
use Rattle.palm_records.specs.declared.choice.BrokenRecords.TheVariants as broken
use Rattle.palm_records.specs.declared.choice.Privacy.{Privacy}
use Rattle.palm_records.specs.Choices.{first_bad, is_exported, shown_label}
use Rattle.content_lines.specs.Properties.{PropertyValue}
use Rattle.content_lines.specs.Refusals.{fault_by, holds, task_place}
use Rattle.calendar_export.specs.declared.kind.Kind.{Kind}
use Rattle.calendar_export.specs.declared.kind.Kind.TheVariants.{Dates, Tasks}
use Rattle.calendar_export.specs.Components.{OriginValue, SourceValue}
use Rattle.calendar_export.specs.Dates.{date_of}
use Rattle.calendar_export.specs.Items.{Content, IsItem, Item, date, item_properties, todo, unread}

-- the creator of the databases of a kind
abbrev pub creator_of : Kind → List ℕ
creator_of Tasks = codes "todo"
creator_of Dates = codes "date"

-- a database of a kind: records of type `DATA` and of its creator
abbrev pub is_of_kind : Kind → DbHead → Bool
is_of_kind kind head = holds (creator_of kind) head

-- the place where bytes are no date
abbrev pub date_place : List ℕ → Option ℕ
date_place bytes = result_err (event_in bytes)

-- the place where bytes are out of the form of their kind
abbrev pub place_in : Kind → List ℕ → Option ℕ
place_in Tasks = task_place
place_in Dates = date_place

-- the place where a record is
abbrev pub fault_of : Kind → Record → Option ℕ
fault_of kind = fault_by (place_in kind)

-- what is said of a record, with the labels of an app block
abbrev pub origin_of : Option (List ℕ) → Record → OriginValue
origin_of app item = record {
  id = item.id;
  secret = item.content.secret;
  label = shown_label app item.content.category;
}

-- the task, or else the bytes
abbrev pub task_or : List ℕ → Result TaskValue ℕ → Content
task_or bytes (Ok task) = todo task
task_or bytes (Err place) = unread bytes

-- the date, or else the bytes
abbrev pub date_or : List ℕ → Result EventValue ℕ → Content
date_or bytes (Ok event) = date (date_of event)
date_or bytes (Err place) = unread bytes

-- what bytes of a kind say
abbrev pub content_in : Kind → List ℕ → Content
content_in Tasks bytes = task_or bytes (task_in bytes)
content_in Dates bytes = date_or bytes (event_in bytes)

-- a record with what it says
abbrev pub item_of : Kind → Option (List ℕ) → Record → Item
item_of kind app item = record {
  origin = origin_of app item;
  content = content_in kind item.content.bytes;
}

-- the records that are exported, in their order
abbrev pub exported : Kind → Privacy → DatabaseValue → List Item
exported kind wanted database =
    map (item_of kind database.app) (filter (is_exported wanted) database.records)

-- when a text is made, and of what
abbrev pub source_of : ℕ → DatabaseValue → SourceValue
source_of made database = record { made = made; stem = stem_of database.head.name }

-- what a record adds to the object
abbrev pub added_properties : SourceValue → Kind → Option (List ℕ) → Privacy → Record
    → List PropertyValue
added_properties source kind app wanted item =
    if is_exported wanted item then item_properties source (item_of kind app item) else []

-- where a record is exported, it is in its bounds
abbrev pub IsSaid : Kind → Option (List ℕ) → Privacy → Record → Type 0
IsSaid kind app wanted item = is_exported wanted item ≡ true → IsItem kind (item_of kind app item)

-- the database is of the kind, the record of this number is the first one that is exported and out
-- of the form of its kind, broken at this place, and such records are not kept
abbrev pub IsRefusedAt : Kind → Privacy → BrokenRecords → DatabaseValue → ℕ → ℕ → Type 0
IsRefusedAt kind wanted how database index place =
    (is_of_kind kind database.head ≡ true) × (how ≡ broken.Refused)
    × (first_bad (fault_of kind) wanted 0 database.records
    ≡ Some (record { index = index; place = place }))
