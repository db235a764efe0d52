-- What each file of a desktop holds, by its name, its bytes and how many slots the desktop has, or
-- its first failing test.
use Rattle.std.specs.Prelude.{◌≡◌, ⊤, ◌&&◌, ◌||◌, ◌++◌, ℕ, zero, suc, Bool, not, bytes_eq, codes, List, if◌then◌else◌, Option, None, Some, Result, Ok, Err}
use Rattle.std.specs.Prelude.{option_and_then}
use Rattle.std.specs.Option.{option_or}
use Rattle.pdb_values.specs.Databases.{DatabaseValue}
use Rattle.pdb_values.specs.Heads.{holds_resources}
use Rattle.pdb_files.specs.BadKinds.{bad_file}
use Rattle.pdb_files.specs.Faults.{file_fault}
use Rattle.pdb_files.specs.Reading.{database_in}
use Rattle.pdb_files.specs.declared.bad_kind.BadKind.{BadKind}
use Rattle.pdb_files.specs.declared.bad_kind.BadKind.TheVariants as kinds
use Rattle.folder_files.specs.FileNames.{archive_file, base_file, desktop_info_file, has_ending, is_kept_file, journal_file, rows_file, slot_prefix}
use Rattle.folder_files.specs.InfoFiles.{desktop_in}
use Rattle.folder_files.specs.Slots.{SlotInfoValue}
use Rattle.folder_files.specs.declared.bad_line.BadLine.{BadLine}
use Rattle.desk_journal.specs.Overlays.{bad_of}
use Rattle.desk_journal.specs.declared.bad_journal.BadJournal.{BadJournal}
use Rattle.desk_store.specs.declared.file_fault.BadDeskFile.{BadDeskFile}
use Rattle.desk_store.specs.declared.file_fault.DeskFileFault.{DeskFileFault}
use Rattle.desk_store.specs.declared.file_fault.DeskFileFault.TheVariants.{Bad, NoMemory}
use Rattle.desk_store.specs.declared.file.DeskFile.{DeskFile}
use Rattle.desk_store.specs.declared.file.DeskFile.TheVariants as files
use Rattle.desk_store.specs.declared.role.Role.{Role}
use Rattle.desk_store.specs.declared.role.Role.TheVariants.{Rows, Base, Archive}

-- a desktop reads the files that it keeps and its journal, and no other
abbrev pub is_desk_file : List ℕ → Bool
is_desk_file name = is_kept_file name || bytes_eq name journal_file

-- what a database is to a desktop, by the ending of its file's name
abbrev pub role_of : List ℕ → Option Role
role_of name =
    if has_ending (codes ".pdb") name then Some Rows
    else if has_ending (codes ".base") name then Some Base
    else if has_ending (codes ".arc") name then Some Archive
    else None

-- the file of a database of this name
abbrev pub role_file : Role → List ℕ → List ℕ
role_file Rows name = rows_file name
role_file Base name = base_file name
role_file Archive name = archive_file name

-- the file of a database of this name in a slot
abbrev pub slot_file : ℕ → Role → List ℕ → List ℕ
slot_file slot role name = slot_prefix slot ++ role_file role name

-- the database has records, and the file bears the name that it asks for in this slot
abbrev pub is_own_file : ℕ → Role → List ℕ → DatabaseValue → Bool
is_own_file slot role name database =
    not (holds_resources database.head.attributes)
    && bytes_eq name (slot_file slot role database.head.name)

-- the first of so many slots in which the file is the database's own
abbrev pub own_slot : ℕ → Role → List ℕ → DatabaseValue → Option ℕ
own_slot zero role name database = None
own_slot (suc slots) role name database =
    option_or (own_slot slots role name database)
    (if is_own_file slots role name database then Some slots else None)

-- a bad file, unless it is the database's own in a slot
abbrev pub if_slot : Role → DatabaseValue → Option ℕ → Result DeskFile BadDeskFile
if_slot role database None = Err (record { kind = kinds.FileName; place = 0 })
if_slot role database (Some slot) = Ok (files.Database slot role database)

-- the same, unless a rule of the format is broken
abbrev pub if_own : Role → DatabaseValue → Option ℕ → Option (BadKind × ℕ)
    → Result DeskFile BadDeskFile
if_own role database slot (Some rule) = Err (record { kind = rule.0; place = rule.1 })
if_own role database slot None = if_slot role database slot

-- the first rule of the format that bytes break
abbrev pub broken_rule : List ℕ → Option (BadKind × ℕ)
broken_rule bytes = option_and_then bad_file (file_fault bytes)

-- an information file in its form, or its first bad line
abbrev pub if_slots : Result (List SlotInfoValue) BadLine → Result DeskFile BadDeskFile
if_slots (Ok infos) = Ok files.Other
if_slots (Err line) = Err (record { kind = kinds.Info; place = line.place })

-- a journal is no file that is kept; it is bad where it is out of its form
abbrev pub if_journal : Option BadJournal → Result DeskFile BadDeskFile
if_journal None = Ok files.Other
if_journal (Some journal) = Err (record { kind = kinds.Journal; place = journal.place })

-- what a file holds that is no database
abbrev pub other_in : List ℕ → List ℕ → Result DeskFile BadDeskFile
other_in name bytes =
    if bytes_eq name desktop_info_file then if_slots (desktop_in bytes)
    else if bytes_eq name journal_file then if_journal (bad_of (Some bytes))
    else Ok files.Other

-- what a file holds, by what its database is to a desktop with so many slots
abbrev pub by_role : ℕ → Option Role → List ℕ → List ℕ → Result DeskFile BadDeskFile
by_role slots (Some role) name bytes =
    if_own role (database_in bytes) (own_slot slots role name (database_in bytes))
    (broken_rule bytes)
by_role slots None name bytes = other_in name bytes

-- what the file of this name and these bytes holds on a desktop with so many slots, or its first
-- failing test
unfoldable pub file_in : ℕ → List ℕ → List ℕ → Result DeskFile BadDeskFile
file_in slots name bytes = by_role slots (role_of name) name bytes

-- the answer is this, unless memory ran out
abbrev pub Reads : Result DeskFile DeskFileFault → Result DeskFile BadDeskFile → Type 0
Reads (Ok file) said = said ≡ Ok file
Reads (Err (Bad bad)) said = said ≡ Err bad
Reads (Err NoMemory) said = ⊤
