-- An iCalendar object and what its components have in common (RFC 5545, sections 3.4 and 3.6), as
-- lists of properties.
use Rattle.std.specs.Prelude.{ℕ, ◌<◌, Bool, List, [], ◌∷◌, ◌++◌, codes}
use Rattle.content_lines.specs.Properties.{IsBytes, PropertyValue, plain_property}
use Rattle.content_lines.specs.Records.{id_limit, mark_properties, uid, unread_bytes, unread_name}
use Rattle.calendar_export.specs.declared.component.Origin.{Origin}
use Rattle.calendar_export.specs.declared.component.Source.{Source}
use Rattle.calendar_export.specs.Moments.{stamp_property}

-- what each component says of its record: its id, whether it is private, the label of its category
-- (empty: none)
pub record OriginValue : Type 0 where
  pub id : ℕ
  pub secret : Bool
  pub label : List ℕ

-- when a text is made, and the stem of its database
pub record SourceValue : Type 0 where
  pub made : ℕ
  pub stem : List ℕ

-- an origin whose label lies in its database
abbrev pub origin_value : Origin → OriginValue
origin_value origin = record { id = origin.id; secret = origin.secret; label = origin.label.now }

-- a source whose stem is lent
abbrev pub source_value : Source → SourceValue
source_value source = record { made = source.made; stem = source.stem.now }

-- an id has 24 bits, and a label bytes
pub record IsOrigin (origin : OriginValue) : Type 0 where
  pub id : origin.id < id_limit
  pub label : IsBytes origin.label

-- where an object or a component begins and ends
abbrev pub begin_of : List ℕ → PropertyValue
begin_of kind = plain_property (codes "BEGIN") kind

abbrev pub end_of : List ℕ → PropertyValue
end_of kind = plain_property (codes "END") kind

-- the properties that each component begins with
abbrev pub head_properties : SourceValue → ℕ → List PropertyValue
head_properties source id = uid id source.stem ∷ stamp_property source.made ∷ []

-- the category of a record and whether it is private
abbrev pub origin_marks : OriginValue → List PropertyValue
origin_marks origin = mark_properties origin.label origin.secret

-- a record that is out of its form, with its bytes
abbrev pub unread_properties : ℕ → List ℕ → List PropertyValue
unread_properties id bytes = unread_name (codes "SUMMARY") id ∷ unread_bytes bytes ∷ []

-- such a record as a journal entry
abbrev pub journal_properties : SourceValue → OriginValue → List ℕ → List PropertyValue
journal_properties source origin bytes =
    (begin_of (codes "VJOURNAL") ∷ []) ++ (head_properties source origin.id
    ++ (unread_properties origin.id bytes
    ++ (origin_marks origin ++ end_of (codes "VJOURNAL") ∷ [])))

-- the properties that an object begins with
abbrev pub opening : List PropertyValue
opening =
    begin_of (codes "VCALENDAR") ∷ plain_property (codes "VERSION") (codes "2.0")
    ∷ plain_property (codes "PRODID") (codes "-//hotsync//Palm calendar//EN") ∷ []

-- the property that it ends with
abbrev pub closing : List PropertyValue
closing = end_of (codes "VCALENDAR") ∷ []

-- the properties of an object with these components
abbrev pub calendar_properties : List PropertyValue → List PropertyValue
calendar_properties components = opening ++ (components ++ closing)
