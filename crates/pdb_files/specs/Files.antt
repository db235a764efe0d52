-- The text of a database file, and the one text of a database that is written (Palm File Format
-- Specification).
use Rattle.std.specs.Prelude.{◌≡◌, ℕ, ◌+◌, ◌*◌, ◌^◌, ◌<◌, Bool, true, false, if◌then◌else◌, List, [], ◌∷◌, ◌++◌, length}
use Rattle.std.specs.List.{concat, AllByRecursion}
use Rattle.pdb_values.specs.declared.head.DbHead.{DbHead}
use Rattle.pdb_values.specs.declared.record.Record.{Record}
use Rattle.pdb_values.specs.declared.resource.Resource.{Resource}
use Rattle.pdb_values.specs.Blocks.{block_length}
use Rattle.pdb_values.specs.Databases.{DatabaseValue}
use Rattle.pdb_values.specs.Heads.{holds_resources}
use Rattle.pdb_values.specs.Names.{IsName}
use Rattle.pdb_files.specs.Headers.{name_length, header_length, header_text, zeros_behind}
use Rattle.pdb_files.specs.Entries.{entry_length, record_entries, resource_entries, record_data, resource_data}
use Rattle.pdb_files.specs.Blocks.{AreShort, begins_from, block_list, block_offset}

-- a database has entries of resources, and else of records
abbrev pub has_resources : DatabaseValue → Bool
has_resources database = holds_resources database.head.attributes

-- how many entries it has
abbrev pub entry_count : DatabaseValue → ℕ
entry_count database =
    if has_resources database then length database.resources else length database.records

-- the data of each entry
abbrev pub data_of : DatabaseValue → List (List ℕ)
data_of database =
    if has_resources database then resource_data database.resources
    else record_data database.records

-- the entries, by where the data of each begins
abbrev pub entries_text : List ℕ → DatabaseValue → List ℕ
entries_text begins database =
    if has_resources database then resource_entries begins database.resources
    else record_entries begins database.records

-- the blocks of a database, in their order in its file: the app block, the sort block, and the data
-- of each entry
abbrev pub blocks_of : DatabaseValue → List (List ℕ)
blocks_of database = block_list database.app ++ (block_list database.sort ++ data_of database)

-- where so many entries end
abbrev pub entries_end : Bool → ℕ → ℕ
entries_end of_resources count = header_length + entry_length of_resources * count

-- where the app block begins in a file with this filler, if it is there
abbrev pub app_begin : DatabaseValue → List ℕ → ℕ
app_begin database filler =
    entries_end (has_resources database) (entry_count database) + length filler

-- where the sort block begins, if it is there
abbrev pub sort_begin : DatabaseValue → List ℕ → ℕ
sort_begin database filler = app_begin database filler + block_length database.app

-- where the data of the first entry begins, if it is there
abbrev pub data_begin : DatabaseValue → List ℕ → ℕ
data_begin database filler = sort_begin database filler + block_length database.sort

-- the file of a database: header, entries, filler and blocks
unfoldable pub file_text : DatabaseValue → List ℕ → List ℕ → List ℕ
file_text database after_name filler =
    header_text database.head after_name
    (block_offset database.app (app_begin database filler))
    (block_offset database.sort (sort_begin database filler)) (entry_count database)
    ++ entries_text (begins_from (data_begin database filler) (data_of database)) database
    ++ filler
    ++ concat (blocks_of database)

-- a head whose fields their places hold
pub record FitsHeader (head : DbHead) : Type 0 where
  pub name : IsName head.name
  pub attributes : head.attributes < 2 ^ 16
  pub version : head.version < 2 ^ 16
  pub created : head.created < 2 ^ 32
  pub modified : head.modified < 2 ^ 32
  pub backup : head.backup < 2 ^ 32
  pub modnum : head.modnum < 2 ^ 32
  pub seed : head.seed < 2 ^ 32
  pub kind : length head.kind.0 ≡ 4
  pub creator : length head.creator.0 ≡ 4

-- a record whose fields its entry holds
pub record FitsRecord (item : Record) : Type 0 where
  pub id : item.id < 2 ^ 24
  pub category : item.content.category < 16

-- a resource whose fields its entry holds
pub record FitsResource (resource : Resource) : Type 0 where
  pub kind : length resource.kind.0 ≡ 4
  pub id : resource.id < 2 ^ 16

-- A text of a database: any bytes behind the name's zero, any filler, and blocks whose places its
-- offsets can name. Its
-- entries are of one sort, and no block has more than 65,500 bytes.
pub record IsFileText (database : DatabaseValue) (bytes : List ℕ) : Type 0 where
  pub after_name : List ℕ
  pub filler : List ℕ
  pub text : bytes ≡ file_text database after_name filler
  pub name_field : length database.head.name + 1 + length after_name ≡ name_length
  pub begins : AllByRecursion (λ begin. begin < 2 ^ 32)
      (begins_from (app_begin database filler) (blocks_of database))
  pub head : FitsHeader database.head
  pub count : entry_count database < 2 ^ 16
  pub records : AllByRecursion FitsRecord database.records
  pub resources : AllByRecursion FitsResource database.resources
  pub no_records : has_resources database ≡ true → database.records ≡ []
  pub no_resources : has_resources database ≡ false → database.resources ≡ []
  pub short : AreShort (blocks_of database)

-- the text that is written: zeros behind the name, and a filler of two zeros
abbrev pub canonical : DatabaseValue → List ℕ
canonical database = file_text database (zeros_behind database.head.name) (0 ∷ 0 ∷ [])
