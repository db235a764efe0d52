-- The tests on a file of a handheld, in their order.
use Rattle.std.specs.Prelude.{◌≡◌, ◌≢◌, ◌⊎◌, ℕ, List, Some, Err, IsSome, MatchBool}
use Rattle.pdb_values.specs.Databases.{DatabaseValue}
use Rattle.pdb_files.specs.BadKinds.{bad_file}
use Rattle.pdb_files.specs.Faults.{file_fault}
use Rattle.pdb_files.specs.Files.{IsFileText}
use Rattle.pdb_files.specs.declared.bad_kind.BadKind.{BadKind}
use Rattle.pdb_files.specs.declared.bad_kind.BadKind.TheVariants.{FileName, Info, Twice}
use Rattle.pdb_files.specs.declared.fault.FileFault.{FileFault}
use Rattle.pdb_values.specs.NamedDatabases.{database_of}
use Rattle.folder_files.specs.InfoFiles.{device_in}
use Rattle.folder_files.specs.FileNames.{database_file}
use Rattle.handheld_files.specs.Handhelds.{IsFileOf, is_database_file}

-- the bytes break a rule of the format
pub record BreaksRule (bytes : List ℕ) (kind : BadKind) (place : ℕ) : Type 0 where
  pub rule : FileFault
  pub first : file_fault bytes ≡ Some rule
  pub is : bad_file rule ≡ Some (kind, place)

-- the bytes are those of a database that asks for another file name
pub record HasOtherName (name bytes : List ℕ) (kind : BadKind) (place : ℕ) : Type 0 where
  pub stored : DatabaseValue
  pub text : IsFileText stored bytes
  pub other : name ≢ database_file stored.head
  pub is : (kind ≡ FileName) × (place ≡ 0)

-- it is the file of a database whose name an earlier one has
pub record IsTwice (earlier : List DatabaseValue) (name bytes : List ℕ) (kind : BadKind)
    (place : ℕ) : Type 0 where
  pub stored : DatabaseValue
  pub file : IsFileOf stored name bytes
  pub before : IsSome (database_of stored.head.name earlier)
  pub is : (kind ≡ Twice) × (place ≡ 0)

-- a line of an information file is out of its form, missing, or one too many
pub record HasBadLine (bytes : List ℕ) (kind : BadKind) (place : ℕ) : Type 0 where
  pub first : device_in bytes ≡ Err (record { place = place })
  pub is : kind ≡ Info

-- the first failing test of a file of a database by itself: one of its bytes, or else that of its
-- name
abbrev pub StoredFails : List ℕ → List ℕ → BadKind → ℕ → Type 0
StoredFails name bytes kind place = BreaksRule bytes kind place ⊎ HasOtherName name bytes kind place

-- the first failing test of a file that a handheld reads, behind files of these databases
abbrev pub FirstFails : List DatabaseValue → List ℕ → List ℕ → BadKind → ℕ → Type 0
FirstFails earlier name bytes kind place =
    MatchBool (is_database_file name)
    (StoredFails name bytes kind place ⊎ IsTwice earlier name bytes kind place)
    (HasBadLine bytes kind place)
