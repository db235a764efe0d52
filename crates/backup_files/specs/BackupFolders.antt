-- The databases that the files of a folder of backups hold, and why such a folder is refused.
use Rattle.std.specs.Prelude.{◌≡◌, ⊤, ◌<◌, ◌≤◌, ℕ, true, List, ◌∷◌, ◌++◌, count_by, Some, string_bytes}
use Rattle.std.specs.FinMap as finmap
use Rattle.std.specs.declared.alloc.Global.{Global}
use Rattle.hs_folders.specs.FileMaps.{FileMap}
use Rattle.hs_folders.specs.declared.faults.FolderFault.{FolderFault}
use Rattle.hs_folders.specs.declared.faults.FolderFault.TheVariants as folder
use Rattle.pdb_values.specs.Databases.{DatabaseValue}
use Rattle.pdb_values.specs.NamedDatabases.{NamesRise, database_of}
use Rattle.pdb_files.specs.Files.{IsFileText}
use Rattle.pdb_files.specs.declared.bad_kind.BadKind.{BadKind}
use Rattle.palm_device.specs.Devices.{most_databases}
use Rattle.handheld_files.specs.BadFiles.{BreaksRule}
use Rattle.handheld_files.specs.Handhelds.{Files}
use Rattle.handheld_files.specs.Openings.{among}
use Rattle.backup_files.specs.BackupNames.{is_backup}
use Rattle.backup_files.specs.declared.fault.BackupFault.{BackupFault}
use Rattle.backup_files.specs.declared.fault.BackupFault.TheVariants.{Failed, TooMany, BadFile, SameDatabase, NoMemory}

-- ---- what they hold

-- the file of this name, of a database, holds this one
pub record HoldsDatabase (files : Files) (name : List ℕ) (database : DatabaseValue) : Type 0 where
  pub is_named : is_backup name ≡ true
  pub bytes : List ℕ
  pub there : files name ≡ Some bytes
  pub text : IsFileText database bytes

-- the bytes are those of one of these databases
pub record IsOneOf (databases : List DatabaseValue) (bytes : List ℕ) : Type 0 where
  pub database : DatabaseValue
  pub text : IsFileText database bytes
  pub found : database_of database.head.name databases ≡ Some database

-- a file holds this database
pub record HasBackup (files : Files) (database : DatabaseValue) : Type 0 where
  pub name : List ℕ
  pub holds : HoldsDatabase files name database

-- These databases, in byte order of their names, are those that the files hold: each file of a
-- database holds one of them, a file holds each of them, and no two files hold databases of one
-- name.
pub record AreBackups (files : Files) (databases : List DatabaseValue) : Type 0 where
  pub order : NamesRise databases
  pub each_file : (name bytes : List ℕ) → is_backup name ≡ true → files name ≡ Some bytes
      → IsOneOf databases bytes
  pub each_database : (name : List ℕ) (database : DatabaseValue)
      → database_of name databases ≡ Some database → HasBackup files database
  pub apart : (name other : List ℕ) (database same : DatabaseValue)
      → HoldsDatabase files name database → HoldsDatabase files other same
      → database.head.name ≡ same.head.name → name ≡ other

-- how many files of databases a folder has
abbrev pub backup_count : FileMap → ℕ
backup_count held = count_by is_backup (finmap.keys held)

-- what a folder of backups holds that was read
pub record HoldsBackups (held : FileMap) (databases : List DatabaseValue) : Type 0 where
  pub few : backup_count held ≤ most_databases
  pub backups : AreBackups (finmap.get held) databases

-- ---- why it is refused

-- a folder that failed is what its reading tells; only a file that is read can be missing, and that
-- refuses nothing
abbrev pub backup_fault : FolderFault → BackupFault
backup_fault folder.Failed = Failed
backup_fault folder.Missing = NoMemory
backup_fault folder.NoMemory = NoMemory

-- the files of these names in front of one hold databases of different names
pub record IsBehindGood (names : List (List ℕ)) (held : FileMap) (name : List ℕ) : Type 0 where
  pub before : List (List ℕ)
  pub after : List (List ℕ)
  pub order : names ≡ before ++ name ∷ after
  pub databases : List DatabaseValue
  pub good : AreBackups (among before held) databases

-- The first bad file of these names: those in front of it hold databases of different names, and
-- its bytes break a rule.
pub record IsFirstBadFile (names : List (List ℕ)) (held : FileMap) (name : List ℕ) (kind : BadKind)
    (place : ℕ) : Type 0 where
  pub behind : IsBehindGood names held name
  pub is_named : is_backup name ≡ true
  pub bytes : List ℕ
  pub there : finmap.get held name ≡ Some bytes
  pub breaks : BreaksRule bytes kind place

-- The first file of these names whose database has the name of an earlier one's: those in front of
-- it hold databases of different names, and one of them is the first.
pub record IsFirstSame (names : List (List ℕ)) (held : FileMap)
    (first second : List ℕ) : Type 0 where
  pub behind : IsBehindGood names held second
  pub earlier : DatabaseValue
  pub first_holds : HoldsDatabase (among behind.before held) first earlier
  pub later : DatabaseValue
  pub second_holds : HoldsDatabase (finmap.get held) second later
  pub same : earlier.head.name ≡ later.head.name

-- what a folder shows of the cause of each refusal to read it
abbrev pub ShowsBackupFault : BackupFault → FileMap → Type 0
ShowsBackupFault Failed held = ⊤
ShowsBackupFault TooMany held = most_databases < backup_count held
ShowsBackupFault (BadFile name kind place) held =
    (backup_count held ≤ most_databases)
    × IsFirstBadFile (finmap.keys held) held (string_bytes {Z = Global} name) kind place
ShowsBackupFault (SameDatabase first second) held =
    (backup_count held ≤ most_databases)
    × IsFirstSame (finmap.keys held) held (string_bytes {Z = Global} first)
    (string_bytes {Z = Global} second)
ShowsBackupFault NoMemory held = ⊤
