-- The file of a database that is to be installed, and why it is refused.
use Rattle.std.specs.Prelude.{◌≡◌, ⊤, ◌<◌, ◌≤◌, ℕ, true, false, List, length, Option, IfSome, string_bytes}
use Rattle.std.specs.declared.alloc.Global.{Global}
use Rattle.pdb_values.specs.Databases.{DatabaseValue}
use Rattle.pdb_values.specs.Heads.{is_read_only}
use Rattle.pdb_files.specs.Files.{IsFileText}
use Rattle.handheld_files.specs.BadFiles.{BreaksRule}
use Rattle.cmd_status.specs.Sources.{source_limit}
use Rattle.cmd_status.specs.declared.status.FileSide.TheVariants.{Source}
use Rattle.cmd_status.specs.declared.status.Status.{Status}
use Rattle.cmd_status.specs.declared.status.Status.TheVariants.{BadFile, CannotInstall, SourceRead, TooLong, NoMemory}

-- bytes that are not too many, and the file of this database, which may be written
pub record IsInstallFile (bytes : List ℕ) (database : DatabaseValue) : Type 0 where
  pub short : length bytes ≤ source_limit
  pub file : IsFileText database bytes
  pub writable : is_read_only database.head.attributes ≡ false

-- the file of a read-only database of this name
pub record IsReadOnlyFile (name bytes : List ℕ) : Type 0 where
  pub short : length bytes ≤ source_limit
  pub database : DatabaseValue
  pub file : IsFileText database bytes
  pub locked : is_read_only database.head.attributes ≡ true
  pub named : name ≡ database.head.name

-- what bytes show of the cause of each refusal of their database
abbrev pub FileShows : List ℕ → Status → List ℕ → Type 0
FileShows path SourceRead bytes = ⊤
FileShows path NoMemory bytes = ⊤
FileShows path TooLong bytes = source_limit < length bytes
FileShows path (BadFile side name kind place) bytes =
    (length bytes ≤ source_limit) × (side ≡ Source) × (string_bytes {Z = Global} name ≡ path)
    × BreaksRule bytes kind place
FileShows path (CannotInstall name) bytes = IsReadOnlyFile name bytes
FileShows path _ bytes = ⊥

-- one of those that a file gives cause for
abbrev pub IsFileRefusal : Status → Type 0
IsFileRefusal SourceRead = ⊤
IsFileRefusal NoMemory = ⊤
IsFileRefusal TooLong = ⊤
IsFileRefusal (BadFile side name kind place) = side ≡ Source
IsFileRefusal (CannotInstall name) = ⊤
IsFileRefusal _ = ⊥

-- the file at a path was refused, and the source shows why
pub record FileRefuses (path : List ℕ) (left : Option (List ℕ)) (refusal : Status) : Type 0 where
  pub is : IsFileRefusal refusal
  pub shown : IfSome left (FileShows path refusal)
