-- What reading the files of a folder one after the other finds.
use Rattle.std.specs.Prelude.{◌≡◌, ◌⊎◌, ⊤, ℕ, true, false, List, Option, Some, None, Result, Ok, Err, IfSome, string_bytes}
use Rattle.std.specs.FinMap as finmap
use Rattle.std.specs.declared.alloc.Global.{Global}
use Rattle.hs_folders.specs.FileMaps.{FileMap}
use Rattle.pdb_values.specs.Databases.{DatabaseValue}
use Rattle.pdb_values.specs.declared.user.UserInfo.{UserInfo}
use Rattle.folder_files.specs.FileNames.{is_handheld_file}
use Rattle.handheld_files.specs.Adding.{AddsFile}
use Rattle.handheld_files.specs.BadFiles.{FirstFails}
use Rattle.handheld_files.specs.Openings.{IsFirstBad}
use Rattle.handheld_files.specs.declared.fault.OpenFault.{OpenFault}
use Rattle.handheld_files.specs.declared.fault.OpenFault.TheVariants.{Keeper, TooMany, BadFile, NoMemory}

-- the file is none that a handheld reads, or is not there
abbrev pub IsPassedOver : Option FileMap → List ℕ → Type 0
IsPassedOver told name =
    (is_handheld_file name ≡ false) ⊎ IfSome told (λ held. finmap.get held name ≡ None)

-- a file that a handheld reads has these bytes
pub record IsRead (told : Option FileMap) (name bytes : List ℕ) : Type 0 where
  pub is_read : is_handheld_file name ≡ true
  pub there : IfSome told (λ held. finmap.get held name ≡ Some bytes)

-- nothing changed
pub record Stays (old : List DatabaseValue) (user : UserInfo) (new : List DatabaseValue)
    (user' : UserInfo) : Type 0 where
  pub databases : new ≡ old
  pub owner : user' ≡ user

-- a file was passed over, or what it stands for was added
abbrev pub ReadsOn : Option FileMap → List ℕ → List DatabaseValue → UserInfo → List DatabaseValue
    → UserInfo → Type 0
ReadsOn told name old user new user' = (IsPassedOver told name × Stays old user new user')
    ⊎ ((bytes : List ℕ) × IsRead told name bytes × AddsFile old user name bytes new user')

-- why a file was refused
abbrev pub RefusesFile : Option FileMap → List ℕ → List DatabaseValue → OpenFault → Type 0
RefusesFile told name earlier Keeper = ⊤
RefusesFile told name earlier TooMany = ⊥
RefusesFile told name earlier (BadFile file kind place) = (string_bytes {Z = Global} file ≡ name)
    × ((bytes : List ℕ) × IsRead told name bytes × FirstFails earlier name bytes kind place)
RefusesFile told name earlier NoMemory = ⊤

-- what reading one file did
abbrev pub ReadsFile : Option FileMap → List ℕ → List DatabaseValue → UserInfo → List DatabaseValue
    → UserInfo → Result (Unit {0}) OpenFault → Type 0
ReadsFile told name old user new user' (Ok done) = ReadsOn told name old user new user'
ReadsFile told name old user new user' (Err fault) = RefusesFile told name old fault

-- why one of the files of these names was refused
abbrev pub RefusesOne : List (List ℕ) → OpenFault → FileMap → Type 0
RefusesOne names Keeper held = ⊤
RefusesOne names TooMany held = ⊥
RefusesOne names (BadFile file kind place) held =
    IsFirstBad names held (string_bytes {Z = Global} file) kind place
RefusesOne names NoMemory held = ⊤
