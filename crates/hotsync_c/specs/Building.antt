-- The database of the parts that C hands over.
use Rattle.std.specs.Prelude.{◌≡◌, ⊤, ℕ, ◌+◌, ◌==◌, ◌&&◌, ◌||◌, Bool, true, false, nat_le, is_none, List, [], ◌∷◌, length, take, drop, Option, Some, None, if◌then◌else◌}
use Rattle.std.specs.List.{list_all}
use Rattle.byteorder.specs.Endian.{big_bytes}
use Rattle.pdb_values.specs.Databases.{DatabaseValue}
use Rattle.pdb_values.specs.Heads.{holds_resources}
use Rattle.pdb_values.specs.Names.{name_fault}
use Rattle.pdb_values.specs.declared.head.DbHead.{DbHead}
use Rattle.pdb_values.specs.declared.record.Record.{Record}
use Rattle.pdb_values.specs.declared.resource.Resource.{Resource}
use Rattle.pdb_files.specs.Files.{canonical}
use Rattle.pdb_files.specs.Reading.{record_of}
use Rattle.hotsync_c.specs.Parts.{absent_size}
use Rattle.hotsync_c.specs.declared.parts.HsEntry.{HsEntry}
use Rattle.hotsync_c.specs.declared.parts.HsHead.{HsHead}
use Rattle.hotsync_c.specs.declared.refusal.Refusal.{Refusal}
use Rattle.hotsync_c.specs.declared.refusal.Refusal.TheVariants.{Memory, Form}

-- ---- the packed bytes

-- how many of the packed bytes a block of this length has
abbrev pub front_size : ℕ → ℕ
front_size size = if size == absent_size then 0 else size

-- how many bytes the name and both blocks have
abbrev pub front_length : HsHead → ℕ
front_length head = head.name + front_size head.app + front_size head.sort

-- the block of this length at the front, if it is there
abbrev pub block_in : ℕ → List ℕ → Option (List ℕ)
block_in size packed = if size == absent_size then None else Some (take size packed)

-- each entry with its bytes, one behind the other
abbrev pub items_in : {A : Type 0} → (HsEntry → List ℕ → A) → List HsEntry → List ℕ → List A
items_in item [] packed = []
items_in item (entry ∷ entries) packed =
    item entry (take entry.size packed) ∷ items_in item entries (drop entry.size packed)

-- ---- which parts there is a database of

-- no rule on names is broken
abbrev pub is_name : List ℕ → Bool
is_name bytes = is_none (name_fault bytes)

-- a block may have this length
abbrev pub is_block : ℕ → Bool
is_block size = (size == absent_size) || nat_le size 65500

-- the numbers of the head have their places in a file
abbrev pub has_head : HsHead → Bool
has_head head =
    nat_le head.attributes 65535 && nat_le head.version 65535 && is_block head.app
    && is_block head.sort

-- the packed bytes have a name and both blocks in front
abbrev pub has_front : HsHead → List ℕ → Bool
has_front head packed =
    nat_le (front_length head) (length packed) && is_name (take head.name packed)

-- an entry may stand in front of a record
abbrev pub is_record_entry : HsEntry → Bool
is_record_entry entry =
    (entry.kind == 0) && nat_le entry.id 16777215 && nat_le entry.attributes 255
    && nat_le entry.size 65500

-- an entry may stand in front of a resource
abbrev pub is_resource_entry : HsEntry → Bool
is_resource_entry entry =
    nat_le entry.id 65535 && (entry.attributes == 0) && nat_le entry.size 65500

-- an entry may stand in front of a resource, or else of a record
abbrev pub is_entry : Bool → HsEntry → Bool
is_entry of_resources entry =
    if of_resources then is_resource_entry entry else is_record_entry entry

-- the packed bytes are exactly the bytes of the entries
abbrev pub is_cut : List HsEntry → List ℕ → Bool
is_cut [] packed = length packed == 0
is_cut (entry ∷ entries) packed =
    nat_le entry.size (length packed) && is_cut entries (drop entry.size packed)

-- there is a database of these parts
abbrev pub are_parts : HsHead → List HsEntry → List ℕ → Bool
are_parts head entries packed =
    has_head head && has_front head packed && nat_le (length entries) 65535
    && list_all (is_entry (holds_resources head.attributes)) entries
    && is_cut entries (drop (front_length head) packed)

-- ---- the database

-- the head of a database under this name
unfoldable pub head_in : HsHead → List ℕ → DbHead
head_in head name =
    record {
      name = name;
      attributes = head.attributes;
      version = head.version;
      created = head.created;
      modified = head.modified;
      backup = head.backup;
      modnum = head.modnum;
      seed = head.seed;
      kind = record { 0 = big_bytes 4 head.kind };
      creator = record { 0 = big_bytes 4 head.creator };
    }

-- the record of these bytes behind its entry
unfoldable pub record_in : HsEntry → List ℕ → Record
record_in entry bytes = record_of (record { attributes = entry.attributes; id = entry.id }) bytes

-- the resource of these bytes behind its entry
unfoldable pub resource_in : HsEntry → List ℕ → Resource
resource_in entry bytes =
    record { kind = record { 0 = big_bytes 4 entry.kind }; id = entry.id; bytes = bytes }

-- a database with these entries and their bytes in place of its own
abbrev pub with_entries : DatabaseValue → List HsEntry → List ℕ → DatabaseValue
with_entries database entries packed =
    record database {
      records = if holds_resources database.head.attributes then []
          else items_in record_in entries packed;
      resources = if holds_resources database.head.attributes
          then items_in resource_in entries packed else [];
    }

-- the database of these parts
unfoldable pub database_in : HsHead → List HsEntry → List ℕ → DatabaseValue
database_in head entries packed =
    let contents = drop (front_length head) packed in
    record {
      head = head_in head (take head.name packed);
      app = block_in head.app (drop head.name packed);
      sort = block_in head.sort (drop (head.name + front_size head.app) packed);
      records = if holds_resources head.attributes then [] else items_in record_in entries contents;
      resources = if holds_resources head.attributes
          then items_in resource_in entries contents else [];
    }

-- there is a database of these parts, and this is its canonical file
pub record IsBuilt (head : HsHead) (entries : List HsEntry) (packed file : List ℕ) : Type 0 where
  pub fit : are_parts head entries packed ≡ true
  pub is : file ≡ canonical (database_in head entries packed)

-- a refusal of these parts: there is no database of them, or memory ran out
abbrev pub RefusesParts : HsHead → List HsEntry → List ℕ → Refusal → Type 0
RefusesParts head entries packed Memory = ⊤
RefusesParts head entries packed Form = are_parts head entries packed ≡ false
RefusesParts head entries packed _ = ⊥
