-- The header of a database file, its first 78 bytes (Palm File Format Specification, header of a
-- PDB or PRC file).
use Rattle.std.specs.Prelude.{ℕ, ◌+◌, ◌-◌, ◌==◌, Bool, List, ◌∷◌, ◌++◌, length, replicate, take, position, Option}
use Rattle.byteorder.specs.Endian.{big_bytes}
use Rattle.pdb_values.specs.declared.head.DbHead.{DbHead}

-- the bytes of the name with the zero behind it, in front of all else
abbrev pub name_length : ℕ
name_length = 32

-- where each other field stands
abbrev pub attributes_place : ℕ
attributes_place = 32

abbrev pub version_place : ℕ
version_place = 34

abbrev pub created_place : ℕ
created_place = 36

abbrev pub modified_place : ℕ
modified_place = 40

abbrev pub backup_place : ℕ
backup_place = 44

abbrev pub modnum_place : ℕ
modnum_place = 48

abbrev pub app_place : ℕ
app_place = 52

abbrev pub sort_place : ℕ
sort_place = 56

abbrev pub kind_place : ℕ
kind_place = 60

abbrev pub creator_place : ℕ
creator_place = 64

abbrev pub seed_place : ℕ
seed_place = 68

abbrev pub next_list_place : ℕ
next_list_place = 72

abbrev pub count_place : ℕ
count_place = 76

-- the length of a header
abbrev pub header_length : ℕ
header_length = 78

abbrev pub is_zero : ℕ → Bool
is_zero byte = byte == 0

-- the place of the zero that ends the name, where its field has one
abbrev pub name_end : List ℕ → Option ℕ
name_end bytes = position is_zero (take name_length bytes)

-- zeros behind the zero of a name, up to the end of its field
abbrev pub zeros_behind : List ℕ → List ℕ
zeros_behind name = replicate (name_length - (length name + 1)) 0

-- The bytes of a header: the name, a zero, what stands behind it, and the fields in their order.
-- The offset of an
-- absent block is 0, and there is no second list of entries.
unfoldable pub header_text : DbHead → List ℕ → ℕ → ℕ → ℕ → List ℕ
header_text head after_name app sort count =
    head.name ++ 0 ∷ after_name
    ++ big_bytes 2 head.attributes ++ big_bytes 2 head.version
    ++ big_bytes 4 head.created ++ big_bytes 4 head.modified ++ big_bytes 4 head.backup
    ++ big_bytes 4 head.modnum
    ++ big_bytes 4 app ++ big_bytes 4 sort
    ++ head.kind.0 ++ head.creator.0
    ++ big_bytes 4 head.seed ++ big_bytes 4 0 ++ big_bytes 2 count
