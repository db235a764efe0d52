-- How many entries the file of a database has.
use Rattle.std.specs.Prelude.{◌≡◌, ℕ, List}
use Rattle.pdb_values.specs.Databases.{DatabaseValue}
use Rattle.pdb_files.specs.declared.count.FileCount.{FileCount}
use Rattle.pdb_files.specs.Files.{IsFileText, entry_count, has_resources}

-- how many entries a database has, and of which sort they are
abbrev pub count_of : DatabaseValue → FileCount
count_of database = record {
  of_resources = has_resources database;
  entries = entry_count database;
}

-- the bytes are the file of a database with so many entries
pub record IsCounted (count : FileCount) (bytes : List ℕ) : Type 0 where
  pub database : DatabaseValue
  pub file : IsFileText database bytes
  pub is : count ≡ count_of database
