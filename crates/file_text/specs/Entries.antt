-- The lines of a database's entries (Palm File Format Specification, record entries and resource
-- entries).
use Rattle.std.specs.Prelude.{ℕ, ◌+◌, List, [], ◌∷◌, ◌++◌, codes, length, if◌then◌else◌}
use Rattle.pdb_values.specs.declared.record.Record.{Record}
use Rattle.pdb_values.specs.declared.resource.Resource.{Resource}
use Rattle.pdb_values.specs.Databases.{DatabaseValue}
use Rattle.pdb_files.specs.Entries.{attributes_of}
use Rattle.pdb_files.specs.Files.{has_resources}
use Rattle.file_text.specs.Escapes.{escaped}
use Rattle.file_text.specs.Fields.{bytes_of, hex_text, line_feed, number_text}

-- `K id HHHHHH attr HH size N`
unfoldable pub record_fields : ℕ → Record → List ℕ
record_fields place item =
    number_text [] place ++ hex_text (codes " id ") (bytes_of 3 item.id)
    ++ hex_text (codes " attr ") (attributes_of item ∷ [])
    ++ number_text (codes " size ") (length item.content.bytes)

-- the line of a record
abbrev pub record_line : ℕ → Record → List ℕ
record_line place item = record_fields place item ++ line_feed

-- `K type HHHHHHHH id N size N`
unfoldable pub resource_fields : ℕ → Resource → List ℕ
resource_fields place resource =
    number_text [] place ++ hex_text (codes " type ") resource.kind.0
    ++ number_text (codes " id ") resource.id
    ++ number_text (codes " size ") (length resource.bytes)

-- the line of a resource
abbrev pub resource_line : ℕ → Resource → List ℕ
resource_line place resource = resource_fields place resource ++ line_feed

-- two spaces, bytes as text, and the end of the line
abbrev pub bytes_text : List ℕ → List ℕ
bytes_text bytes = codes "  " ++ escaped bytes ++ line_feed

-- the line of a record with its bytes
abbrev pub full_record_line : ℕ → Record → List ℕ
full_record_line place item = record_fields place item ++ bytes_text item.content.bytes

-- the line of a resource with its bytes
abbrev pub full_resource_line : ℕ → Resource → List ℕ
full_resource_line place resource = resource_fields place resource ++ bytes_text resource.bytes

-- a line for each entry, from this place on
abbrev pub lines_from : {A : Type 0} → (ℕ → A → List ℕ) → ℕ → List A → List ℕ
lines_from line place [] = []
lines_from line place (item ∷ items) = line place item ++ lines_from line (place + 1) items

-- a line for each record, from 0
abbrev pub record_lines : List Record → List ℕ
record_lines records = lines_from record_line 0 records

-- a line for each resource, from 0
abbrev pub resource_lines : List Resource → List ℕ
resource_lines resources = lines_from resource_line 0 resources

-- a line for each entry
abbrev pub entry_lines : DatabaseValue → List ℕ
entry_lines database =
    if has_resources database then resource_lines database.resources
    else record_lines database.records

-- a line for each record with its bytes, from 0
abbrev pub full_record_lines : List Record → List ℕ
full_record_lines records = lines_from full_record_line 0 records

-- a line for each resource with its bytes, from 0
abbrev pub full_resource_lines : List Resource → List ℕ
full_resource_lines resources = lines_from full_resource_line 0 resources

-- a line for each entry with its bytes
abbrev pub full_entry_lines : DatabaseValue → List ℕ
full_entry_lines database =
    if has_resources database then full_resource_lines database.resources
    else full_record_lines database.records
