-- What opening a handheld's folder finds in it.
use Rattle.std.specs.Prelude.{◌≡◌, ◌<◌, ◌≤◌, ⊤, ℕ, true, if◌then◌else◌, List, ◌∷◌, ◌++◌, count_by, length, IfSome, Option, Some, None, string_bytes, bytes_eq}
use Rattle.std.specs.FinMap as finmap
use Rattle.std.specs.List.{AllByRecursion, list_any}
use Rattle.std.specs.declared.alloc.Global.{Global}
use Rattle.hs_folders.specs.FileMaps.{FileMap}
use Rattle.hs_folders.specs.declared.faults.FolderFault.{FolderFault}
use Rattle.hs_folders.specs.declared.faults.FolderFault.TheVariants as folder
use Rattle.pdb_values.specs.Databases.{DatabaseValue}
use Rattle.pdb_values.specs.declared.user.UserInfo.{UserInfo}
use Rattle.pdb_files.specs.declared.bad_kind.BadKind.{BadKind}
use Rattle.palm_device.specs.Devices.{Device, most_databases}
use Rattle.palm_device.specs.Handles.{no_handles}
use Rattle.pdb_values.specs.NamedDatabases.{NamesRise}
use Rattle.folder_files.specs.FileNames.{is_handheld_file}
use Rattle.handheld_files.specs.BadFiles.{FirstFails}
use Rattle.handheld_files.specs.Handhelds.{Files, StandFor, is_database_file}
use Rattle.handheld_files.specs.Settled.{are_settled}
use Rattle.handheld_files.specs.declared.fault.OpenFault.{OpenFault}
use Rattle.handheld_files.specs.declared.fault.OpenFault.TheVariants.{Keeper, TooMany, BadFile, NoMemory}

-- a folder that failed is what its opening tells; only a file that is read can be missing, and that
-- refuses nothing
abbrev pub open_fault : FolderFault → OpenFault
open_fault folder.Failed = Keeper
open_fault folder.Missing = NoMemory
open_fault folder.NoMemory = NoMemory

-- the folder's files of these names, and no others
abbrev pub among : List (List ℕ) → FileMap → Files
among names held name = if list_any (bytes_eq name) names then finmap.get held name else None

-- how many files of databases a folder has
abbrev pub database_count : FileMap → ℕ
database_count held = count_by is_database_file (finmap.keys held)

-- The first bad file of these names: those before it stand for databases and a user, and it fails a
-- test.
pub record IsFirstBad (names : List (List ℕ)) (held : FileMap) (name : List ℕ) (kind : BadKind)
    (place : ℕ) : Type 0 where
  pub before : List (List ℕ)
  pub after : List (List ℕ)
  pub order : names ≡ before ++ name ∷ after
  pub databases : List DatabaseValue
  pub user : UserInfo
  pub good : StandFor (among before held) databases user
  pub bytes : List ℕ
  pub there : finmap.get held name ≡ Some bytes
  pub is_read : is_handheld_file name ≡ true
  pub fails : FirstFails databases name bytes kind place

-- what a folder shows of the cause of each refusal to open it
abbrev pub ShowsOpenFault : OpenFault → FileMap → Type 0
ShowsOpenFault Keeper held = ⊤
ShowsOpenFault TooMany held = most_databases < database_count held
ShowsOpenFault (BadFile name kind place) held =
    (database_count held ≤ most_databases)
    × IsFirstBad (finmap.keys held) held (string_bytes {Z = Global} name) kind place
ShowsOpenFault NoMemory held = ⊤

-- what a folder holds that was opened
pub record HoldsAll (held : FileMap) (databases : List DatabaseValue)
    (user : UserInfo) : Type 0 where
  pub few : database_count held ≤ most_databases
  pub stands : StandFor (finmap.get held) databases user

-- a handheld of these databases and this user, on which nothing is open
abbrev pub opened_device : List DatabaseValue → UserInfo → Device
opened_device databases user = record { databases = databases; user = user; handles = no_handles }

-- databases as a store keeps them, whatever its folder tells
pub record AreKept (databases : List DatabaseValue) : Type 0 where
  pub order : NamesRise databases
  pub few : length databases ≤ most_databases
  pub settled : AllByRecursion (λ database. are_settled database.records ≡ true) databases

-- what a folder holds, where it is told, stands for these databases and this user
abbrev pub Stands : Option FileMap → List DatabaseValue → UserInfo → Type 0
Stands told databases user = IfSome told (λ held. StandFor (finmap.get held) databases user)
