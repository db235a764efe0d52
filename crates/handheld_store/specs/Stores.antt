-- What contracts see of a store.
use Rattle.std.specs.Prelude.{◌≡◌, ℕ, Bool, List, Option, IfSome}
use Rattle.hs_folders.specs.FileMaps.{FileMap}
use Rattle.pdb_values.specs.Contents.{ContentValue}
use Rattle.pdb_values.specs.Databases.{DatabaseValue}
use Rattle.pdb_values.specs.NamedDatabases.{database_of, replaced}
use Rattle.pdb_values.specs.declared.head.DbHead.{DbHead}
use Rattle.pdb_values.specs.declared.user.UserInfo.{UserInfo}
use Rattle.handheld_files.specs.Openings.{Stands}
use Rattle.handheld_store.specs.Placed.{with_record}

-- a store is the folder that it keeps, the databases and the user that the folder stands for, and
-- whether it is sound
pub record StoreValue (F : Type 0) : Type 0 where
  pub folder : F
  pub databases : List DatabaseValue
  pub user : UserInfo
  pub sound : Bool

-- the folder of a store stands for its databases and its user
abbrev pub IsKeptIn : {F : Type 0} → (F → Option FileMap) → StoreValue F → Type 0
IsKeptIn contents store = Stands (contents store.folder) store.databases store.user

-- where a database has the name of this head, it has this head
abbrev pub HasHead : DbHead → List DatabaseValue → Type 0
HasHead head databases = IfSome (database_of head.name databases) (λ was. was.head ≡ head)

-- where a database has the name, its record of this id has this content then, and the folder is
-- what it became; all else stays
abbrev pub HasWritten : {F : Type 0} → List ℕ → ℕ → ContentValue → StoreValue F → StoreValue F
    → Type 0
HasWritten name id content old new =
    IfSome (database_of name old.databases)
    (λ was. new ≡ record old {
      folder = new.folder;
      databases = replaced (with_record id content was) old.databases;
    })
