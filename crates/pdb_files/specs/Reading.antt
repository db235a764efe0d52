-- What a reading of a database file gives, step by step.
use Rattle.std.specs.Prelude.{◌≡◌, ℕ, ◌/◌, ◌%◌, ◌==◌, Bool, true, false, if◌then◌else◌, List, [], ◌∷◌, drop, slice_index, take, Option, None, Some, unwrap_or}
use Rattle.std.specs.Prelude.{Result, Ok, Err}
use Rattle.pdb_values.specs.declared.head.DbHead.{DbHead}
use Rattle.pdb_values.specs.declared.record.Record.{Record}
use Rattle.pdb_values.specs.declared.resource.Resource.{Resource}
use Rattle.pdb_values.specs.Databases.{DatabaseValue}
use Rattle.pdb_values.specs.Heads.{holds_resources}
use Rattle.pdb_files.specs.declared.entry.Entry.{Entry}
use Rattle.pdb_files.specs.declared.header.Header.{Header}
use Rattle.pdb_files.specs.declared.fault.FileFault.{FileFault}
use Rattle.pdb_files.specs.declared.fault.FileFault.TheVariants.{NoMemory}
use Rattle.pdb_files.specs.Fields.{number_at, code_at}
use Rattle.pdb_files.specs.Headers.{name_end, attributes_place, version_place, created_place, modified_place, backup_place, modnum_place, app_place, sort_place}
use Rattle.pdb_files.specs.Headers.{kind_place, creator_place, seed_place, header_length}
use Rattle.pdb_files.specs.Entries.{bits_place, id_place, type_place, number_place, entry_length}
use Rattle.pdb_files.specs.Blocks.{behind_front, blocks_in, front_block}
use Rattle.pdb_files.specs.Faults.{count_in, block_begins}

-- the head that a header tells
unfoldable pub head_in : List ℕ → DbHead
head_in bytes =
    record {
      name = take (unwrap_or (name_end bytes) 0) bytes;
      attributes = number_at 2 attributes_place bytes;
      version = number_at 2 version_place bytes;
      created = number_at 4 created_place bytes;
      modified = number_at 4 modified_place bytes;
      backup = number_at 4 backup_place bytes;
      modnum = number_at 4 modnum_place bytes;
      seed = number_at 4 seed_place bytes;
      kind = record { 0 = code_at kind_place bytes };
      creator = record { 0 = code_at creator_place bytes };
    }

-- what a header says
unfoldable pub header_in : List ℕ → Header
header_in bytes = record {
  head = head_in bytes;
  app = number_at 4 app_place bytes;
  sort = number_at 4 sort_place bytes;
  count = count_in bytes;
}

-- what a record's entry says beside where its data begins
unfoldable pub entry_in : List ℕ → Entry
entry_in bytes = record {
  attributes = slice_index bytes bits_place;
  id = number_at 3 id_place bytes;
}

-- a bit of this weight is set
abbrev pub has_bit : ℕ → ℕ → Bool
has_bit weight attributes = attributes / weight % 2 == 1

-- the record of an entry and its bytes
unfoldable pub record_of : Entry → List ℕ → Record
record_of entry bytes =
    record {
      id = entry.id;
      deleted = has_bit 128 entry.attributes;
      dirty = has_bit 64 entry.attributes;
      busy = has_bit 32 entry.attributes;
      content = record {
        category = entry.attributes % 16;
        secret = has_bit 16 entry.attributes;
        bytes = bytes;
      };
    }

-- the resource of the entry at the front and its data
unfoldable pub resource_of : List ℕ → List ℕ → Resource
resource_of entry bytes = record {
  kind = record { 0 = code_at type_place entry };
  id = number_at 2 number_place entry;
  bytes = bytes;
}

-- what entries of this size at the front and the data of each give
abbrev pub items_in : {A : Type 0} → ℕ → (List ℕ → List ℕ → A) → List ℕ → List (List ℕ) → List A
items_in size item entries [] = []
items_in size item entries (block ∷ blocks) =
    item entries block ∷ items_in size item (drop size entries) blocks

-- the records of the entries at the front
abbrev pub records_in : List ℕ → List (List ℕ) → List Record
records_in = items_in (entry_length false) (λ entry block. record_of (entry_in entry) block)

-- the resources of the entries at the front
abbrev pub resources_in : List ℕ → List (List ℕ) → List Resource
resources_in = items_in (entry_length true) resource_of

-- a database with these entries and their blocks in place of its own
abbrev pub with_entries : DatabaseValue → List ℕ → List (List ℕ) → DatabaseValue
with_entries database entries blocks =
    record database {
      records = if holds_resources database.head.attributes then [] else records_in entries blocks;
      resources = if holds_resources database.head.attributes
          then resources_in entries blocks else [];
    }

-- the database of this header, its entries and all of its blocks
unfoldable pub database_of : Header → List ℕ → List (List ℕ) → DatabaseValue
database_of header entries blocks =
    let behind_app = behind_front header.app blocks in
    let contents = behind_front header.sort behind_app in
    record {
      head = header.head;
      app = front_block header.app blocks;
      sort = front_block header.sort behind_app;
      records = if holds_resources header.head.attributes then [] else records_in entries contents;
      resources = if holds_resources header.head.attributes
          then resources_in entries contents else [];
    }

-- the database of bytes that break no rule
unfoldable pub database_in : List ℕ → DatabaseValue
database_in bytes =
    database_of (header_in bytes) (drop header_length bytes) (blocks_in (block_begins bytes) bytes)

-- the answer is this fault, or without a fault this value, unless memory ran out
abbrev pub Gives : {A : Type 0} → Result A FileFault → Option FileFault → A → Type 0
Gives (Ok value) fault expected = (fault ≡ None) × (value ≡ expected)
Gives (Err NoMemory) fault expected = Unit {0}
Gives (Err refusal) fault expected = fault ≡ Some refusal
