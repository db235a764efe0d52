-- The entries behind the header: eight bytes for a record, ten for a resource (Palm File Format
-- Specification, record
-- entries of a PDB file and resource entries of a PRC file). A file has resource entries where its
-- attributes say so.
use Rattle.std.specs.Prelude.{ℕ, zero, suc, ◌+◌, Bool, if◌then◌else◌, List, [], ◌∷◌, ◌++◌, drop, map}
use Rattle.std.specs.List.{flat_map, zip}
use Rattle.byteorder.specs.Endian.{big_bytes}
use Rattle.pdb_values.specs.declared.record.Record.{Record}
use Rattle.pdb_values.specs.declared.resource.Resource.{Resource}
use Rattle.pdb_files.specs.Fields.{number_at}

-- where the fields stand in a record's entry, behind the four bytes that say where its data begins
abbrev pub bits_place : ℕ
bits_place = 4

abbrev pub id_place : ℕ
id_place = 5

-- where the fields stand in a resource's entry
abbrev pub type_place : ℕ
type_place = 0

abbrev pub number_place : ℕ
number_place = 4

-- the length of an entry of a resource, or else of a record
abbrev pub entry_length : Bool → ℕ
entry_length of_resource = if of_resource then 10 else 8

-- where such an entry says where its data begins
abbrev pub begin_place : Bool → ℕ
begin_place of_resource = if of_resource then 6 else 0

-- the weight of a bit where it is set
abbrev pub bit_where : Bool → ℕ → ℕ
bit_where flag weight = if flag then weight else 0

-- the attributes of a record: 0x80 deleted, 0x40 dirty, 0x20 busy, 0x10 secret, and the category
abbrev pub attributes_of : Record → ℕ
attributes_of item =
    bit_where item.deleted 128 + bit_where item.dirty 64 + bit_where item.busy 32
    + bit_where item.content.secret 16 + item.content.category

-- the bytes of the entry of a record whose data begins at this place
unfoldable pub record_entry : ℕ → Record → List ℕ
record_entry begin item = big_bytes 4 begin ++ attributes_of item ∷ [] ++ big_bytes 3 item.id

-- the bytes of the entry of a resource whose data begins at this place
unfoldable pub resource_entry : ℕ → Resource → List ℕ
resource_entry begin resource = resource.kind.0 ++ big_bytes 2 resource.id ++ big_bytes 4 begin

-- the entries of records, by where the data of each begins
abbrev pub record_entries : List ℕ → List Record → List ℕ
record_entries begins items = flat_map (λ entry. record_entry entry.0 entry.1) (zip begins items)

-- the entries of resources, by where the data of each begins
abbrev pub resource_entries : List ℕ → List Resource → List ℕ
resource_entries begins resources =
    flat_map (λ entry. resource_entry entry.0 entry.1) (zip begins resources)

-- the data of each record
abbrev pub record_data : List Record → List (List ℕ)
record_data items = map (λ item. item.content.bytes) items

-- the data of each resource
abbrev pub resource_data : List Resource → List (List ℕ)
resource_data resources = map (λ resource. resource.bytes) resources

-- where the data of so many entries begins, as the entries at the front say at this place of each
abbrev pub begins_in : ℕ → ℕ → ℕ → List ℕ → List ℕ
begins_in size place zero bytes = []
begins_in size place (suc count) bytes =
    number_at 4 place bytes ∷ begins_in size place count (drop size bytes)
