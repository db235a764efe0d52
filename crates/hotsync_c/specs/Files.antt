-- What is answered of a database's file.
use Rattle.std.specs.Prelude.{◌≡◌, ◌⊎◌, ⊤, ℕ, ℤ, pos, List, Some}
use Rattle.pdb_values.specs.Databases.{DatabaseValue}
use Rattle.pdb_files.specs.BadKinds.{bad_file}
use Rattle.pdb_files.specs.Faults.{file_fault}
use Rattle.pdb_files.specs.Files.{IsFileText, entry_count}
use Rattle.pdb_files.specs.declared.bad_kind.BadKind.{BadKind}
use Rattle.pdb_files.specs.declared.bad_kind.BadKind.TheVariants.{Short, Name, Chained, Offset, Large, FileName, Twice, Info, Journal}
use Rattle.pdb_files.specs.declared.fault.FileFault.{FileFault}
use Rattle.pdb_files.specs.declared.fault.FileFault.TheVariants.{NoMemory}
use Rattle.file_text.specs.Listings.{show_text}
use Rattle.hotsync_c.specs.Answers.{answer_of}
use Rattle.hotsync_c.specs.declared.refusal.Refusal.{Refusal}
use Rattle.hotsync_c.specs.declared.refusal.Refusal.TheVariants.{Memory, Form}

-- the number of a kind of bad file
abbrev pub kind_number : BadKind → ℕ
kind_number Short = 1
kind_number Name = 2
kind_number Chained = 3
kind_number Offset = 4
kind_number Large = 5
kind_number FileName = 6
kind_number Twice = 7
kind_number Info = 8
kind_number Journal = 9

-- the bytes are a database's file, whose lines these are
pub record ShowsFile (bytes text : List ℕ) : Type 0 where
  pub database : DatabaseValue
  pub file : IsFileText database bytes
  pub is : text ≡ show_text database

-- a reason not to read the bytes: the first rule that they break, or want of memory
abbrev pub Unreadable : List ℕ → FileFault → Type 0
Unreadable bytes NoMemory = ⊤
Unreadable bytes fault = file_fault bytes ≡ Some fault

-- a refusal of the bytes: they break a rule, or memory ran out
abbrev pub RefusesFile : List ℕ → Refusal → Type 0
RefusesFile bytes Memory = ⊤
RefusesFile bytes Form = (fault : FileFault) × (file_fault bytes ≡ Some fault)
RefusesFile bytes _ = ⊥

-- the bytes are the file of a database with so many entries
pub record IsCounted (bytes : List ℕ) (kind place : ℕ) (answer : ℤ) : Type 0 where
  pub database : DatabaseValue
  pub file : IsFileText database bytes
  pub answer_is : answer ≡ pos (entry_count database)
  pub no_kind : kind ≡ 0
  pub no_place : place ≡ 0

-- the first rule that the bytes break is of this kind, at this place
pub record IsBroken (bytes : List ℕ) (kind place : ℕ) (answer : ℤ) : Type 0 where
  pub fault : FileFault
  pub broken : file_fault bytes ≡ Some fault
  pub bad : BadKind
  pub told : bad_file fault ≡ Some (bad, place)
  pub kind_is : kind ≡ kind_number bad
  pub answer_is : answer ≡ answer_of Form

-- memory ran out
pub record IsUnknown (kind place : ℕ) (answer : ℤ) : Type 0 where
  pub no_kind : kind ≡ 0
  pub no_place : place ≡ 0
  pub answer_is : answer ≡ answer_of Memory

-- what is answered of bytes that may be a database's file
abbrev pub IsChecked : List ℕ → ℕ → ℕ → ℤ → Type 0
IsChecked bytes kind place answer =
    IsCounted bytes kind place answer
    ⊎ (IsBroken bytes kind place answer ⊎ IsUnknown kind place answer)
