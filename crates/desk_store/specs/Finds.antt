-- What reading the files of a folder finds, one after the other.
use Rattle.std.specs.Prelude.{◌≡◌, ◌<◌, ⊤, ℕ, Bool, bytes_eq, codes, List, [], ◌∷◌, length, filter, slice_set, if◌then◌else◌, Option, None, Some, Result, Ok}
use Rattle.std.specs.Prelude.{Err, string_bytes}
use Rattle.std.specs.List.{list_any}
use Rattle.std.specs.Option.{option_map, option_or}
use Rattle.std.specs.declared.alloc.Global.{Global}
use Rattle.std.specs.FinMap as finmap
use Rattle.hs_folders.specs.FileMaps.{FileMap}
use Rattle.pdb_values.specs.Databases.{DatabaseValue}
use Rattle.folder_files.specs.FileNames.{has_ending}
use Rattle.desk_store.specs.DeskFiles.{slot_file}
use Rattle.desk_store.specs.declared.file_fault.BadDeskFile.{BadDeskFile}
use Rattle.desk_store.specs.declared.file.DeskFile.{DeskFile}
use Rattle.desk_store.specs.declared.file.DeskFile.TheVariants as files
use Rattle.desk_store.specs.declared.role.Role.{Role}
use Rattle.desk_store.specs.Shelves.{AreInOrder, SlotValue, bad_at, database_at, infos_of, shelf_at, slot_at, slots_in, with_database}
use Rattle.desk_store.specs.declared.fault.DeskOpenFault.{DeskOpenFault}
use Rattle.desk_store.specs.declared.fault.DeskOpenFault.TheVariants.{DeskFault, TooMany, BadFile, NoMemory}
use Rattle.pdb_values.specs.NamedDatabases.{database_of}

-- a database takes the place of the one of its role and name in a slot, or else its own
abbrev pub with_database_at : ℕ → Role → DatabaseValue → List SlotValue → List SlotValue
with_database_at slot role database slots = slice_set slots slot
    (record (slot_at slots slot) {
      shelves = with_database role database
          (slot_at slots slot).shelves;
    })

-- with what a file holds
abbrev pub with_file : DeskFile → List SlotValue → List SlotValue
with_file (files.Database slot role database) slots = with_database_at slot role database slots
with_file files.Other slots = slots

-- each slot keeps what an information file says of it, and its databases their order
pub record KeepsForm (old new : List SlotValue) : Type 0 where
  pub marked : infos_of new ≡ infos_of old
  pub ordered : AreInOrder old → AreInOrder new

-- the file is good, and what it holds was added
abbrev pub Adds : Result DeskFile BadDeskFile → List SlotValue → List SlotValue → Type 0
Adds (Ok file) old new = new ≡ with_file file old
Adds (Err bad) old new = ⊥

-- the same of a file that may not be there
abbrev pub AddsAny : Option (Result DeskFile BadDeskFile) → List SlotValue → List SlotValue → Type 0
AddsAny None old new = new ≡ old
AddsAny (Some said) old new = Adds said old new

-- the first bad one of these files, with its name, on a desktop with so many slots
abbrev pub first_bad : FileMap → ℕ → List (List ℕ) → Option (List ℕ × BadDeskFile)
first_bad held slots [] = None
first_bad held slots (name ∷ names) =
    option_or (option_map (λ bad. (name, bad)) (bad_at held slots name))
    (first_bad held slots names)

-- the first bad file of a folder in byte order of names
abbrev pub first_bad_in : FileMap → Option (List ℕ × BadDeskFile)
first_bad_in held = first_bad held (length (slots_in held)) (finmap.keys held)

-- one of the names is this
abbrev pub is_among : List (List ℕ) → List ℕ → Bool
is_among names name = list_any (bytes_eq name) names

-- none of these files is bad, and this is what they hold
pub record FindsAll (held : FileMap) (names : List (List ℕ)) (slots : List SlotValue) : Type 0 where
  pub marked : infos_of slots ≡ slots_in held
  pub good : first_bad held (length slots) names ≡ None
  pub shelved : (slot : ℕ) (role : Role) (name : List ℕ) → slot < length slots
      → database_of name (shelf_at slots slot role)
      ≡ (if is_among names (slot_file slot role name) then database_at held
      (length slots) slot role name else None)

-- this file is why the folder is refused
abbrev pub Refuses : List ℕ → Option BadDeskFile → DeskOpenFault → Type 0
Refuses name bad DeskFault = ⊥
Refuses name bad TooMany = ⊥
Refuses name bad (BadFile file kind place) =
    (string_bytes {Z = Global} file ≡ name) × (bad ≡ Some (record { kind = kind; place = place }))
Refuses name bad NoMemory = ⊤

-- the same, unless the folder failed
abbrev pub RefusesAt : List ℕ → Option BadDeskFile → DeskOpenFault → Type 0
RefusesAt name bad DeskFault = ⊤
RefusesAt name bad TooMany = ⊥
RefusesAt name bad (BadFile file kind place) =
    (string_bytes {Z = Global} file ≡ name) × (bad ≡ Some (record { kind = kind; place = place }))
RefusesAt name bad NoMemory = ⊤

-- the first bad one of the files is why the folder is refused, unless the folder failed
abbrev pub RefusesAmong : Option (List ℕ × BadDeskFile) → DeskOpenFault → Type 0
RefusesAmong bad DeskFault = ⊤
RefusesAmong bad TooMany = ⊥
RefusesAmong bad (BadFile file kind place) =
    bad ≡ Some (string_bytes {Z = Global} file, record { kind = kind; place = place })
RefusesAmong bad NoMemory = ⊤

-- how many of these files hold rows
abbrev pub rows_count : List (List ℕ) → ℕ
rows_count names = length (filter (has_ending (codes ".pdb")) names)
