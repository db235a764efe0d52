-- A database in the parts that C sees of it.
use Rattle.std.specs.Prelude.{◌≡◌, ⊤, ℕ, List, [], ◌++◌, length, map, slice_get, Option, Some, None, if◌then◌else◌}
use Rattle.std.specs.List.{concat}
use Rattle.std.specs.Option.{option_map}
use Rattle.byteorder.specs.Endian.{big_number}
use Rattle.pdb_values.specs.Databases.{DatabaseValue}
use Rattle.pdb_values.specs.declared.four_cc.FourCc.{FourCc}
use Rattle.pdb_values.specs.declared.record.Record.{Record}
use Rattle.pdb_values.specs.declared.resource.Resource.{Resource}
use Rattle.pdb_files.specs.Entries.{attributes_of}
use Rattle.pdb_files.specs.Files.{IsFileText, data_of, entry_count, has_resources}
use Rattle.hotsync_c.specs.Files.{RefusesFile}
use Rattle.hotsync_c.specs.declared.parts.HsEntry.{HsEntry}
use Rattle.hotsync_c.specs.declared.parts.HsHead.{HsHead}
use Rattle.hotsync_c.specs.declared.refusal.Refusal.{Refusal}
use Rattle.hotsync_c.specs.declared.refusal.Refusal.TheVariants.{Memory, Form, Absent}

-- a type or a creator as a number, the first character in its highest byte
abbrev pub code_number : FourCc → ℕ
code_number code = big_number 4 code.0

-- what stands for the length of a block that isn't there
abbrev pub absent_size : ℕ
absent_size = 4294967295

-- how long a block is
abbrev pub block_size : Option (List ℕ) → ℕ
block_size None = absent_size
block_size (Some block) = length block

-- the bytes of a block, if it is there
abbrev pub block_bytes : Option (List ℕ) → List ℕ
block_bytes None = []
block_bytes (Some block) = block

-- what the header of a database says, and how long the name and the blocks are
unfoldable pub head_of : DatabaseValue → HsHead
head_of database =
    record {
      attributes = database.head.attributes;
      version = database.head.version;
      created = database.head.created;
      modified = database.head.modified;
      backup = database.head.backup;
      modnum = database.head.modnum;
      seed = database.head.seed;
      kind = code_number database.head.kind;
      creator = code_number database.head.creator;
      entries = entry_count database;
      name = length database.head.name;
      app = block_size database.app;
      sort = block_size database.sort;
    }

-- the name and the blocks, one behind the other
abbrev pub front_of : DatabaseValue → List ℕ
front_of database =
    (database.head.name ++ block_bytes database.app) ++ block_bytes database.sort

-- what stands in front of a record
abbrev pub record_entry : Record → HsEntry
record_entry item =
    record {
      kind = 0;
      id = item.id;
      attributes = attributes_of item;
      size = length item.content.bytes;
    }

-- what stands in front of a resource
abbrev pub resource_entry : Resource → HsEntry
resource_entry resource =
    record {
      kind = code_number resource.kind;
      id = resource.id;
      attributes = 0;
      size = length resource.bytes;
    }

-- what stands in front of the entry at this index
abbrev pub entry_at : DatabaseValue → ℕ → Option HsEntry
entry_at database index =
    if has_resources database then option_map resource_entry (slice_get database.resources index)
    else option_map record_entry (slice_get database.records index)

-- the bytes of the entry at this index
abbrev pub bytes_at : DatabaseValue → ℕ → Option (List ℕ)
bytes_at database index =
    if has_resources database
    then option_map (λ resource. resource.bytes) (slice_get database.resources index)
    else option_map (λ item. item.content.bytes) (slice_get database.records index)

-- the bytes are the file of a database with this head, and the text is its name and its blocks
pub record IsHeadOf (bytes : List ℕ) (head : HsHead) (text : List ℕ) : Type 0 where
  pub database : DatabaseValue
  pub file : IsFileText database bytes
  pub told : head ≡ head_of database
  pub is : text ≡ front_of database

-- the bytes are the file of a database with this entry at the index, and the text is its bytes
pub record IsEntryOf (bytes : List ℕ) (index : ℕ) (entry : HsEntry) (text : List ℕ)
    : Type 0 where
  pub database : DatabaseValue
  pub file : IsFileText database bytes
  pub told : entry_at database index ≡ Some entry
  pub is : bytes_at database index ≡ Some text

-- the bytes are the file of a database without an entry at the index
pub record LacksEntry (bytes : List ℕ) (index : ℕ) : Type 0 where
  pub database : DatabaseValue
  pub file : IsFileText database bytes
  pub none : entry_at database index ≡ None

-- a refusal of an entry: there is none at the index, or the bytes are refused
abbrev pub RefusesEntry : List ℕ → ℕ → Refusal → Type 0
RefusesEntry bytes index Memory = ⊤
RefusesEntry bytes index Form = RefusesFile bytes Form
RefusesEntry bytes index Absent = LacksEntry bytes index
RefusesEntry bytes index _ = ⊥

-- what stands in front of each entry
abbrev pub entries_of : DatabaseValue → List HsEntry
entries_of database =
    if has_resources database then map resource_entry database.resources
    else map record_entry database.records

-- the name, the blocks and the bytes of each entry, one behind the other
abbrev pub packed_of : DatabaseValue → List ℕ
packed_of database = front_of database ++ concat (data_of database)
