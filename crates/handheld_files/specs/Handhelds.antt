-- The databases and the user that the files of a handheld stand for.
use Rattle.std.specs.Prelude.{◌≡◌, ℕ, Bool, true, ◌||◌, List, [], codes, Option, None, Some}
use Rattle.pdb_values.specs.Databases.{DatabaseValue}
use Rattle.pdb_values.specs.declared.user.UserInfo.{UserInfo}
use Rattle.pdb_files.specs.Files.{IsFileText}
use Rattle.pdb_values.specs.NamedDatabases.{NamesRise, database_of}
use Rattle.folder_files.specs.InfoFiles.{IsDeviceFile}
use Rattle.folder_files.specs.FileNames.{has_ending, database_file, device_info_file}
use Rattle.handheld_files.specs.Settled.{as_opened}

-- files by their names, as far as they are looked at
abbrev pub Files : Type 0
Files = List ℕ → Option (List ℕ)

-- a file of records or of resources; the other kind that a handheld reads is its information file
abbrev pub is_database_file : List ℕ → Bool
is_database_file name = has_ending (codes ".pdb") name || has_ending (codes ".prc") name

-- a file of this name and these bytes is that of this database
pub record IsFileOf (stored : DatabaseValue) (name bytes : List ℕ) : Type 0 where
  pub text : IsFileText stored bytes
  pub named : name ≡ database_file stored.head

-- the database of a file is one of these, as opening made it
pub record IsHeld (databases : List DatabaseValue) (name bytes : List ℕ) : Type 0 where
  pub stored : DatabaseValue
  pub file : IsFileOf stored name bytes
  pub held : database_of stored.head.name databases ≡ Some (as_opened stored)

-- a database has its file
pub record HasFile (files : Files) (database : DatabaseValue) : Type 0 where
  pub stored : DatabaseValue
  pub bytes : List ℕ
  pub text : IsFileText stored bytes
  pub there : files (database_file stored.head) ≡ Some bytes
  pub is : database ≡ as_opened stored

-- a handheld without an information file knows nothing of its user
abbrev pub no_user : UserInfo
no_user = record { user = 0; viewer = 0; pc = 0; good = 0; last = 0; name = []; password = [] }

-- the user of an information file, where there is one
abbrev pub IsUserOf : Option (List ℕ) → UserInfo → Type 0
IsUserOf None user = user ≡ no_user
IsUserOf (Some bytes) user = IsDeviceFile user bytes

-- The files stand for these databases, in byte order of their names, and for this user: each
-- database has its file as opening
-- made it, and each file of a database has its database.
pub record StandFor (files : Files) (databases : List DatabaseValue)
    (user : UserInfo) : Type 0 where
  pub order : NamesRise databases
  pub each_file : (name bytes : List ℕ) → is_database_file name ≡ true → files name ≡ Some bytes
      → IsHeld databases name bytes
  pub each_database : (name : List ℕ) (database : DatabaseValue)
      → database_of name databases ≡ Some database → HasFile files database
  pub owner : IsUserOf (files device_info_file) user
