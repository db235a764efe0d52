-- What one file of a handheld adds to what the files before it stand for.
use Rattle.std.specs.Prelude.{◌≡◌, ⊤, ℕ, List, Some, None, MatchBool, string_bytes}
use Rattle.std.specs.declared.alloc.Global.{Global}
use Rattle.pdb_values.specs.Databases.{DatabaseValue}
use Rattle.pdb_values.specs.declared.user.UserInfo.{UserInfo}
use Rattle.pdb_files.specs.BadKinds.{bad_file}
use Rattle.pdb_files.specs.declared.bad_kind.BadKind.{BadKind}
use Rattle.pdb_files.specs.declared.fault.FileFault.{FileFault}
use Rattle.pdb_values.specs.NamedDatabases.{database_of, with_new}
use Rattle.folder_files.specs.InfoFiles.{IsDeviceFile}
use Rattle.handheld_files.specs.BadFiles.{FirstFails, StoredFails}
use Rattle.handheld_files.specs.Handhelds.{IsFileOf, is_database_file}
use Rattle.handheld_files.specs.Settled.{as_opened}
use Rattle.handheld_files.specs.declared.fault.OpenFault.{OpenFault}
use Rattle.handheld_files.specs.declared.fault.OpenFault.TheVariants.{Keeper, TooMany, BadFile, NoMemory}

-- the database of a file goes among those that were there, as opening makes it
pub record AddsDatabase (old : List DatabaseValue) (name bytes : List ℕ)
    (new : List DatabaseValue) : Type 0 where
  pub stored : DatabaseValue
  pub file : IsFileOf stored name bytes
  pub is_new : database_of stored.head.name old ≡ None
  pub made : new ≡ with_new (as_opened stored) old

-- a file of a database adds it, and the information file says who the user is
abbrev pub AddsFile : List DatabaseValue → UserInfo → List ℕ → List ℕ → List DatabaseValue
    → UserInfo → Type 0
AddsFile old user name bytes new user' =
    MatchBool (is_database_file name) (AddsDatabase old name bytes new × (user' ≡ user))
    (IsDeviceFile user' bytes
    × (new ≡ old))

-- what a file shows of the cause of each refusal, behind files of these databases
abbrev pub FileShows : List DatabaseValue → List ℕ → List ℕ → OpenFault → Type 0
FileShows earlier name bytes Keeper = ⊥
FileShows earlier name bytes TooMany = ⊥
FileShows earlier name bytes (BadFile file kind place) =
    (string_bytes {Z = Global} file ≡ name) × FirstFails earlier name bytes kind place
FileShows earlier name bytes NoMemory = ⊤

-- the same of a file of a database by itself
abbrev pub StoredShows : List ℕ → List ℕ → OpenFault → Type 0
StoredShows name bytes Keeper = ⊥
StoredShows name bytes TooMany = ⊥
StoredShows name bytes (BadFile file kind place) =
    (string_bytes {Z = Global} file ≡ name) × StoredFails name bytes kind place
StoredShows name bytes NoMemory = ⊤

-- a bad file of this name, unless memory ran out
abbrev pub IsBadFile : List ℕ → BadKind → ℕ → OpenFault → Type 0
IsBadFile name kind place Keeper = ⊥
IsBadFile name kind place TooMany = ⊥
IsBadFile name kind place (BadFile file found at) =
    (string_bytes {Z = Global} file ≡ name) × (found ≡ kind) × (at ≡ place)
IsBadFile name kind place NoMemory = ⊤

-- a bad file that breaks this rule, unless memory ran out
abbrev pub IsBrokenFile : List ℕ → FileFault → OpenFault → Type 0
IsBrokenFile name rule Keeper = ⊥
IsBrokenFile name rule TooMany = ⊥
IsBrokenFile name rule (BadFile file kind place) =
    (string_bytes {Z = Global} file ≡ name) × (bad_file rule ≡ Some (kind, place))
IsBrokenFile name rule NoMemory = ⊤
