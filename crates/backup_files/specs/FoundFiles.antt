-- What reading the files of a folder of backups one after the other finds.
use Rattle.std.specs.Prelude.{◌≡◌, ◌⊎◌, ⊤, ℕ, Bool, true, false, List, [], ◌∷◌, ◌++◌, find, Option, Some, None, Result, Ok, Err, IfSome, bytes_eq, string_bytes}
use Rattle.std.specs.FinMap as finmap
use Rattle.std.specs.declared.alloc.Global.{Global}
use Rattle.hs_folders.specs.FileMaps.{FileMap}
use Rattle.pdb_values.specs.Databases.{DatabaseValue}
use Rattle.pdb_values.specs.NamedDatabases.{with_new}
use Rattle.palm_device.specs.Bounds.{IsBoundedDatabase}
use Rattle.pdb_files.specs.BadKinds.{bad_file}
use Rattle.pdb_files.specs.Files.{IsFileText}
use Rattle.pdb_files.specs.declared.fault.FileFault.{FileFault}
use Rattle.handheld_files.specs.BadFiles.{BreaksRule}
use Rattle.backup_files.specs.BackupFolders.{IsFirstBadFile, IsFirstSame}
use Rattle.backup_files.specs.BackupNames.{is_backup}
use Rattle.backup_files.specs.declared.fault.BackupFault.{BackupFault}
use Rattle.backup_files.specs.declared.fault.BackupFault.TheVariants.{Failed, TooMany, BadFile, SameDatabase, NoMemory}
use Rattle.backup_files.specs.declared.found.Origin.{Origin}

-- the database of this name was found there
abbrev pub is_origin : List ℕ → Origin → Bool
is_origin name origin = bytes_eq origin.name name

-- ---- one file

-- the database of a file goes among those that were found, and so does where it was found
pub record Adds (old : List DatabaseValue) (origins : List Origin) (name bytes : List ℕ)
    (new : List DatabaseValue) (origins' : List Origin) : Type 0 where
  pub stored : DatabaseValue
  pub text : IsFileText stored bytes
  pub bounded : IsBoundedDatabase stored
  pub is_new : find (is_origin stored.head.name) origins ≡ None
  pub made : new ≡ with_new stored old
  pub origin : Origin
  pub file : string_bytes origin.file ≡ name
  pub database : origin.name ≡ stored.head.name
  pub noted : origins' ≡ origins ++ origin ∷ []

-- a file's database has the name of one that was found before
pub record IsFoundBefore (origins : List Origin) (bytes first : List ℕ) : Type 0 where
  pub stored : DatabaseValue
  pub text : IsFileText stored bytes
  pub origin : Origin
  pub found : find (is_origin stored.head.name) origins ≡ Some origin
  pub file : string_bytes origin.file ≡ first

-- what a file shows of the cause of each refusal, behind those that were found
abbrev pub FileShows : List Origin → List ℕ → List ℕ → BackupFault → Type 0
FileShows origins name bytes Failed = ⊥
FileShows origins name bytes TooMany = ⊥
FileShows origins name bytes (BadFile file kind place) =
    (string_bytes {Z = Global} file ≡ name) × BreaksRule bytes kind place
FileShows origins name bytes (SameDatabase first second) =
    (string_bytes {Z = Global} second ≡ name)
    × IsFoundBefore origins bytes (string_bytes {Z = Global} first)
FileShows origins name bytes NoMemory = ⊤

-- the same of a file by itself
abbrev pub StoredShows : List ℕ → List ℕ → BackupFault → Type 0
StoredShows name bytes Failed = ⊥
StoredShows name bytes TooMany = ⊥
StoredShows name bytes (BadFile file kind place) =
    (string_bytes {Z = Global} file ≡ name) × BreaksRule bytes kind place
StoredShows name bytes (SameDatabase first second) = ⊥
StoredShows name bytes NoMemory = ⊤

-- a bad file that breaks this rule, unless memory ran out
abbrev pub IsBrokenFile : List ℕ → FileFault → BackupFault → Type 0
IsBrokenFile name rule Failed = ⊥
IsBrokenFile name rule TooMany = ⊥
IsBrokenFile name rule (BadFile file kind place) =
    (string_bytes {Z = Global} file ≡ name) × (bad_file rule ≡ Some (kind, place))
IsBrokenFile name rule (SameDatabase first second) = ⊥
IsBrokenFile name rule NoMemory = ⊤

-- two files of these names, unless memory ran out
abbrev pub IsSameFault : List ℕ → List ℕ → BackupFault → Type 0
IsSameFault name other Failed = ⊥
IsSameFault name other TooMany = ⊥
IsSameFault name other (BadFile file kind place) = ⊥
IsSameFault name other (SameDatabase first second) =
    (string_bytes {Z = Global} first ≡ name) × (string_bytes {Z = Global} second ≡ other)
IsSameFault name other NoMemory = ⊤

-- ---- one file after the other

-- the file is none of a database, or is not there
abbrev pub IsPassedOver : Option FileMap → List ℕ → Type 0
IsPassedOver told name =
    (is_backup name ≡ false) ⊎ IfSome told (λ held. finmap.get held name ≡ None)

-- a file of a database has these bytes
pub record IsRead (told : Option FileMap) (name bytes : List ℕ) : Type 0 where
  pub is_named : is_backup name ≡ true
  pub there : IfSome told (λ held. finmap.get held name ≡ Some bytes)

-- nothing changed
pub record Stays (old : List DatabaseValue) (origins : List Origin) (new : List DatabaseValue)
    (origins' : List Origin) : Type 0 where
  pub databases : new ≡ old
  pub found : origins' ≡ origins

-- a file was passed over, or its database was added
abbrev pub ReadsOn : Option FileMap → List ℕ → List DatabaseValue → List Origin
    → List DatabaseValue → List Origin → Type 0
ReadsOn told name old origins new origins' =
    (IsPassedOver told name × Stays old origins new origins')
    ⊎ ((bytes : List ℕ) × IsRead told name bytes × Adds old origins name bytes new origins')

-- why a file was refused
abbrev pub RefusesFile : Option FileMap → List ℕ → List Origin → BackupFault → Type 0
RefusesFile told name origins Failed = ⊤
RefusesFile told name origins TooMany = ⊥
RefusesFile told name origins (BadFile file kind place) =
    (string_bytes {Z = Global} file ≡ name)
    × ((bytes : List ℕ) × IsRead told name bytes × BreaksRule bytes kind place)
RefusesFile told name origins (SameDatabase first second) =
    (string_bytes {Z = Global} second ≡ name)
    × ((bytes : List ℕ) × IsRead told name bytes
    × IsFoundBefore origins bytes (string_bytes {Z = Global} first))
RefusesFile told name origins NoMemory = ⊤

-- what reading one file did
abbrev pub ReadsFile : Option FileMap → List ℕ → List DatabaseValue → List Origin
    → List DatabaseValue → List Origin → Result (Unit {0}) BackupFault → Type 0
ReadsFile told name old origins new origins' (Ok done) =
    ReadsOn told name old origins new origins'
ReadsFile told name old origins new origins' (Err fault) = RefusesFile told name origins fault

-- why one of the files of these names was refused
abbrev pub RefusesOne : List (List ℕ) → BackupFault → FileMap → Type 0
RefusesOne names Failed held = ⊤
RefusesOne names TooMany held = ⊥
RefusesOne names (BadFile file kind place) held =
    IsFirstBadFile names held (string_bytes {Z = Global} file) kind place
RefusesOne names (SameDatabase first second) held =
    IsFirstSame names held (string_bytes {Z = Global} first) (string_bytes {Z = Global} second)
RefusesOne names NoMemory held = ⊤
