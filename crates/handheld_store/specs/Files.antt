-- The one file that goes with a database.
use Rattle.std.specs.Prelude.{◌≡◌, ◌⊎◌, ℕ, List, Option, Some, None}
use Rattle.std.specs.FinMap as finmap
use Rattle.std.specs.Option.{option_map}
use Rattle.hs_folders.specs.FileMaps.{FileMap}
use Rattle.pdb_values.specs.Databases.{DatabaseValue}
use Rattle.pdb_values.specs.NamedDatabases.{database_of}
use Rattle.pdb_files.specs.Files.{IsFileText, canonical}
use Rattle.folder_files.specs.FileNames.{database_file}
use Rattle.handheld_store.specs.Stores.{StoreValue}

-- the files once a database became another one: its file holds its canonical bytes, or is gone with
-- it
abbrev pub files_after : Option DatabaseValue → Option DatabaseValue → FileMap → FileMap
files_after old (Some database) held =
    finmap.insert held (database_file database.head) (canonical database)
files_after (Some database) None held = finmap.remove held (database_file database.head)
files_after None None held = held

-- The files go with a database. Where it has the same value as before, all files are as before,
-- byte for byte, filler and all;
-- else its file changed and no other.
abbrev pub Follows : Option DatabaseValue → Option DatabaseValue → Option FileMap
    → Option FileMap → Type 0
Follows old new before after =
    ((new ≡ old) × (after ≡ before))
    ⊎ ((new ≡ old → ⊥) × (after ≡ option_map (files_after old new) before))

-- the files of a store go with the database of this name
abbrev pub FollowsName : {F : Type 0} → (F → Option FileMap) → List ℕ → StoreValue F
    → StoreValue F → Type 0
FollowsName contents name old new =
    Follows (database_of name old.databases) (database_of name new.databases) (contents old.folder)
    (contents new.folder)

-- where a database became another one, its canonical bytes are a text of its file
abbrev pub HasText : DatabaseValue → DatabaseValue → Type 0
HasText old new = (new ≡ old → ⊥) → IsFileText new (canonical new)
