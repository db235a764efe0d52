-- What a desktop's folder holds: its slots, and the database in each file; and the databases of a
-- slot in byte order of their names.
use Rattle.std.specs.Prelude.{ℕ, nat_lt, List, [], ◌∷◌, ◌++◌, length, map, slice_index_or, if◌then◌else◌, Option, None, Some, option_and_then, Result, Ok, Err}
use Rattle.std.specs.FinMap as finmap
use Rattle.std.specs.List.{AllByRecursion}
use Rattle.std.specs.Option.{option_map}
use Rattle.hs_folders.specs.FileMaps.{FileMap}
use Rattle.pdb_values.specs.Databases.{DatabaseValue}
use Rattle.pdb_values.specs.declared.user.Marks.{Marks}
use Rattle.folder_files.specs.FileNames.{desktop_info_file}
use Rattle.folder_files.specs.InfoFiles.{desktop_in, plain_info}
use Rattle.folder_files.specs.Slots.{SlotInfoValue, pc_of}
use Rattle.folder_files.specs.declared.bad_line.BadLine.{BadLine}
use Rattle.folder_files.specs.declared.parted.Parted.{Parted}
use Rattle.desk_store.specs.DeskFiles.{file_in, slot_file}
use Rattle.desk_store.specs.declared.file_fault.BadDeskFile.{BadDeskFile}
use Rattle.desk_store.specs.declared.file.DeskFile.{DeskFile}
use Rattle.desk_store.specs.declared.file.DeskFile.TheVariants as files
use Rattle.desk_store.specs.declared.role.Role.{Role}
use Rattle.desk_store.specs.declared.role.Role.TheVariants.{Rows, Base, Archive}
use Rattle.pdb_values.specs.NamedDatabases.{NamesRise, with_put}

-- ---- files

-- the slots of a desktop that no session has touched: one, without a user; the desktop's number is
-- 1
abbrev pub first_slots : List SlotInfoValue
first_slots = plain_info (record { pc = 1; user = 0; last = 0; name = [] }) ∷ []

-- the slots of an information file in its form, else those
abbrev pub slots_or_first : Option (Result (List SlotInfoValue) BadLine) → List SlotInfoValue
slots_or_first None = first_slots
slots_or_first (Some (Ok infos)) = infos
slots_or_first (Some (Err line)) = first_slots

-- what a desktop knows of the user of each slot, and which databases took no part in its last
-- session: its information file says it
abbrev pub slots_in : FileMap → List SlotInfoValue
slots_in held = slots_or_first (option_map desktop_in (finmap.get held desktop_info_file))

-- the database of a good file
abbrev pub if_database : Result DeskFile BadDeskFile → Option DatabaseValue
if_database (Ok (files.Database slot role database)) = Some database
if_database (Ok files.Other) = None
if_database (Err bad) = None

-- the first failing test of a bad file
abbrev pub if_bad : Result DeskFile BadDeskFile → Option BadDeskFile
if_bad (Ok file) = None
if_bad (Err bad) = Some bad

-- what the file of this name holds, on a desktop with so many slots
abbrev pub file_at : FileMap → ℕ → List ℕ → Option (Result DeskFile BadDeskFile)
file_at held slots name = option_map (file_in slots name) (finmap.get held name)

-- the first failing test of the file of this name
abbrev pub bad_at : FileMap → ℕ → List ℕ → Option BadDeskFile
bad_at held slots name = option_and_then if_bad (file_at held slots name)

-- the rows, base rows or archive of the database of this name in a slot
abbrev pub database_at : FileMap → ℕ → ℕ → Role → List ℕ → Option DatabaseValue
database_at held slots slot role name =
    option_and_then (λ bytes. if_database (file_in slots (slot_file slot role name) bytes))
    (finmap.get held (slot_file slot role name))

-- ---- databases

-- the databases of a slot, by what they are to the desktop
pub record ShelvesValue : Type 0 where
  pub rows : List DatabaseValue
  pub bases : List DatabaseValue
  pub archives : List DatabaseValue

-- those of a role
abbrev pub shelf_of : ShelvesValue → Role → List DatabaseValue
shelf_of shelves Rows = shelves.rows
shelf_of shelves Base = shelves.bases
shelf_of shelves Archive = shelves.archives

-- the names of each list rise in byte order, so that no two are equal
pub record AreOrdered (shelves : ShelvesValue) : Type 0 where
  pub rows : NamesRise shelves.rows
  pub bases : NamesRise shelves.bases
  pub archives : NamesRise shelves.archives

-- a database takes the place of the one of its name, or else its own, among those of its role
abbrev pub with_database : Role → DatabaseValue → ShelvesValue → ShelvesValue
with_database Rows database shelves = record shelves { rows = with_put database shelves.rows }
with_database Base database shelves = record shelves { bases = with_put database shelves.bases }
with_database Archive database shelves =
    record shelves { archives = with_put database shelves.archives }

-- ---- slots

-- a slot is what the desktop knows of its user, its databases that took no part in its last
-- session, and its databases
pub record SlotValue : Type 0 where
  pub marks : Marks
  pub parted : List Parted
  pub shelves : ShelvesValue

-- what an information file says of a slot
abbrev pub info_of : SlotValue → SlotInfoValue
info_of slot = record { marks = slot.marks; parted = slot.parted }

-- a slot without a database, of which it says this
abbrev pub bare_slot : SlotInfoValue → SlotValue
bare_slot info = record {
  marks = info.marks;
  parted = info.parted;
  shelves = record { rows = []; bases = []; archives = [] };
}

-- a slot without a database
abbrev pub empty_slot : Marks → SlotValue
empty_slot marks = bare_slot (plain_info marks)

-- a slot of a desktop with this number, without a user and without a database
abbrev pub new_slot : ℕ → SlotValue
new_slot pc = empty_slot (record { pc = pc; user = 0; last = 0; name = [] })

-- what is known of the user of each slot
abbrev pub marks_of : List SlotValue → List Marks
marks_of slots = map (λ slot. slot.marks) slots

-- what an information file says of each slot
abbrev pub infos_of : List SlotValue → List SlotInfoValue
infos_of slots = map info_of slots

-- the number of the desktop
abbrev pub number_of : List SlotValue → ℕ
number_of slots = pc_of (marks_of slots)

-- the slot at a place, or a new one behind the last
abbrev pub slot_at : List SlotValue → ℕ → SlotValue
slot_at slots place = slice_index_or slots place (new_slot (number_of slots))

-- the databases of a role in the slot at a place
abbrev pub shelf_at : List SlotValue → ℕ → Role → List DatabaseValue
shelf_at slots place role = shelf_of (slot_at slots place).shelves role

-- in each slot the databases are in byte order of their names
abbrev pub AreInOrder : List SlotValue → Type 0
AreInOrder slots = AllByRecursion (λ slot. AreOrdered slot.shelves) slots

-- the slot at a place is there: behind the last one a new one comes
abbrev pub with_place : List SlotValue → ℕ → List SlotValue
with_place slots place =
    if nat_lt place (length slots) then slots else slots ++ new_slot (number_of slots) ∷ []
