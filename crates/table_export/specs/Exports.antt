-- The tables of databases: a head row with the names of the columns, and a row for each record that
-- is exported.
use Rattle.std.specs.Prelude.{◌≡◌, ℕ, Bool, true, List, [], ◌∷◌, ◌++◌, codes, filter, map, replicate, Option, Some, Result, Ok, Err, if◌then◌else◌}
use Rattle.std.specs.Int.{bytes_high_first}
use Rattle.hex.specs.Hex.{encode_lower}
use Rattle.pdb_values.specs.declared.head.DbHead.{DbHead}
use Rattle.pdb_values.specs.declared.record.Record.{Record}
use Rattle.pdb_values.specs.Databases.{DatabaseValue}
use Rattle.palm_records.specs.Addresses.{AddressValue, address_in}
use Rattle.palm_records.specs.Tasks.{TaskValue, task_in}
use Rattle.palm_records.specs.declared.choice.BrokenRecords.{BrokenRecords}
use Rattle.palm_records.specs.declared.choice.BrokenRecords.TheVariants.{Refused}
use Rattle.palm_records.specs.declared.choice.Privacy.{Privacy}
use Rattle.palm_records.specs.Choices.{BadItem, first_bad, is_exported, shown_label}
use Rattle.content_lines.specs.Refusals.{address_place, fault_by, holds, task_place}
use Rattle.card_export.specs.Exports.{text_of}
use Rattle.table_export.specs.Addresses.{address_columns, address_names}
use Rattle.table_export.specs.Tables.{line_of, palm_field}
use Rattle.table_export.specs.Tasks.{task_columns, task_names}
use Rattle.table_export.specs.declared.kind.Kind.{Kind}
use Rattle.table_export.specs.declared.kind.Kind.TheVariants.{Addresses, Tasks}
use Rattle.table_export.specs.declared.kind.Marks.{Marks}

-- the creator of the databases of a kind
abbrev pub creator_of : Kind → List ℕ
creator_of Addresses = codes "addr"
creator_of Tasks = codes "todo"

-- a database of a kind: records of type `DATA` and of its creator
abbrev pub is_of_kind : Kind → DbHead → Bool
is_of_kind kind head = holds (creator_of kind) head

-- the place where bytes are out of the form of their kind
abbrev pub place_in : Kind → List ℕ → Option ℕ
place_in Addresses = address_place
place_in Tasks = task_place

-- the place where a record is out of the form of its kind
abbrev pub fault_of : Kind → Record → Option ℕ
fault_of kind = fault_by (place_in kind)

-- the first record that is exported and out of its form, if any is
abbrev pub first_bad_item : Kind → Privacy → DatabaseValue → Option BadItem
first_bad_item kind wanted database = first_bad (fault_of kind) wanted 0 database.records

-- there is no table of a database of the kind, since the record of this number is the first such
-- one, broken at this place, and such records are not kept
abbrev pub IsRefusedAt : Kind → Privacy → BrokenRecords → DatabaseValue → ℕ → ℕ → Type 0
IsRefusedAt kind wanted broken database index place =
    (is_of_kind kind database.head ≡ true) × (broken ≡ Refused)
    × (first_bad_item kind wanted database ≡ Some (record { index = index; place = place }))

-- the id in six hexadecimal digits
abbrev pub id_digits : ℕ → List ℕ
id_digits id = encode_lower (bytes_high_first 3 id)

-- the mark of a private record
abbrev pub private_text : Bool → List ℕ
private_text secret = if secret then codes "private" else []

-- the first columns: the id, the mark, the label of the category
abbrev pub origin_columns : Option (List ℕ) → Record → List (List ℕ)
origin_columns app item =
    id_digits item.id ∷ private_text item.content.secret
    ∷ palm_field (shown_label app item.content.category) ∷ []

-- a record that is out of its form: no other column than the last one
abbrev pub unread_columns : ℕ → List ℕ → List (List ℕ)
unread_columns count bytes = replicate count [] ++ encode_lower bytes ∷ []

-- the columns of an address, and the empty last one
abbrev pub address_or : List ℕ → Result AddressValue ℕ → List (List ℕ)
address_or bytes (Ok address) = address_columns address ++ [] ∷ []
address_or bytes (Err place) = unread_columns 24 bytes

-- the columns of a task, and the empty last one
abbrev pub task_or : List ℕ → Result TaskValue ℕ → List (List ℕ)
task_or bytes (Ok task) = task_columns task ++ [] ∷ []
task_or bytes (Err place) = unread_columns 5 bytes

-- the columns of what a record's bytes say, or of the bytes
abbrev pub content_columns : Kind → List ℕ → List (List ℕ)
content_columns Addresses bytes = address_or bytes (address_in bytes)
content_columns Tasks bytes = task_or bytes (task_in bytes)

-- the row of a record
abbrev pub item_row : Kind → Option (List ℕ) → Record → List (List ℕ)
item_row kind app item = origin_columns app item ++ content_columns kind item.content.bytes

-- the names of the columns of a kind, with the labels of an app block
abbrev pub content_names : Kind → List ℕ → List (List ℕ)
content_names Addresses block = address_names block
content_names Tasks block = task_names

-- the head row
unfoldable pub head_row : Kind → List ℕ → List (List ℕ)
head_row kind block =
    (codes "id" ∷ codes "private" ∷ codes "category" ∷ [])
    ++ (content_names kind block ++ codes "record" ∷ [])

-- the rows of a database: the head row, and those of the records that are exported, in their order
abbrev pub exported_rows : Kind → Privacy → DatabaseValue → List (List (List ℕ))
exported_rows kind wanted database =
    head_row kind (text_of database.app)
    ∷ map (item_row kind database.app) (filter (is_exported wanted) database.records)

-- what a record adds to the text
abbrev pub item_text : Marks → Kind → Option (List ℕ) → Privacy → Record → List ℕ
item_text marks kind app wanted item =
    if is_exported wanted item then line_of marks (item_row kind app item) else []
