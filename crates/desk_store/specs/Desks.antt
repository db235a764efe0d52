-- Desktops: what a folder stands for, and when it stands for none.
use Rattle.std.specs.Prelude.{◌≡◌, ⊤, ◌<◌, ◌≤◌, ℕ, List, length, sum_by, Option, None, Some, IfSome, string_bytes}
use Rattle.std.specs.FinMap as finmap
use Rattle.std.specs.declared.alloc.Global.{Global}
use Rattle.hs_folders.specs.FileMaps.{FileMap}
use Rattle.hs_folders.specs.Moments.{EachMomentSince, Moments}
use Rattle.pdb_values.specs.NamedDatabases.{database_of}
use Rattle.pdb_values.specs.Slots.{most_slots}
use Rattle.pdb_values.specs.declared.slot.Slot.{Slot}
use Rattle.pdb_values.specs.declared.slot.Slot.TheVariants.{Old, New, Refused, Full}
use Rattle.folder_files.specs.Slots.{AllRise, AreSlots}
use Rattle.desk_journal.specs.Overlays.{HasNoJournal, finished}
use Rattle.desk_store.specs.Finds.{first_bad_in, rows_count}
use Rattle.desk_store.specs.Shelves.{AreInOrder, SlotValue, bad_at, database_at, infos_of, marks_of, shelf_at, slots_in}
use Rattle.desk_store.specs.declared.role.Role.{Role}
use Rattle.desk_store.specs.declared.fault.DeskOpenFault.{DeskOpenFault}
use Rattle.desk_store.specs.declared.fault.DeskOpenFault.TheVariants.{DeskFault, TooMany, BadFile, NoMemory}

-- these are all slots of a folder with all their databases; it has no journal and no bad file
pub record IsDeskOf (held : FileMap) (slots : List SlotValue) : Type 0 where
  pub no_journal : HasNoJournal held
  pub marked : infos_of slots ≡ slots_in held
  pub shelved : (slot : ℕ) (role : Role) (name : List ℕ) → slot < length slots
      → database_of name (shelf_at slots slot role)
      ≡ database_at held (length slots) slot role name
  pub good : (name : List ℕ) → bad_at held (length slots) name ≡ None

-- the slots of a desktop are in their form, each with its databases in byte order of their names
-- and those that took no part in byte order of their stems, and are those of its folder, where that
-- tells what it holds
pub record IsDesk (told : Option FileMap) (slots : List SlotValue) : Type 0 where
  pub formed : AreSlots (marks_of slots)
  pub parted : AllRise (infos_of slots)
  pub ordered : AreInOrder slots
  pub stands : IfSome told (λ held. IsDeskOf held slots)

-- the picked place is that of a slot, or the one behind the last where there is room for one more
pub record IsPlace (slots : List SlotValue) (place : ℕ) : Type 0 where
  pub near : place ≤ length slots
  pub room : place < most_slots

-- the place of a slot on a desktop with so many: a new one comes behind the last
abbrev pub place_of : ℕ → Slot → ℕ
place_of slots (Old place) = place
place_of slots New = slots
place_of slots Refused = slots
place_of slots Full = slots

-- the slot can be picked: an old one is there, a new one has room
abbrev pub IsPickable : ℕ → Slot → Type 0
IsPickable slots (Old place) = place < slots
IsPickable slots New = slots < most_slots
IsPickable slots Refused = ⊥
IsPickable slots Full = ⊥

-- how many databases have rows in all slots
abbrev pub all_rows : List SlotValue → ℕ
all_rows slots = sum_by (λ slot. length slot.shelves.rows) slots

-- there are not too many files of rows, and none is bad
pub record IsReadable (held : FileMap) : Type 0 where
  pub few : rows_count (finmap.keys held) ≤ 200
  pub good : first_bad_in held ≡ None

-- a folder can be opened as a desktop: it is so once its journal is finished
abbrev pub IsOpenable : FileMap → Type 0
IsOpenable held = IsReadable (finished held)

-- it can be opened now and could be at each moment since, where it tells what it holds
pub record StaysOpenable (now : Option FileMap) (old new : Moments) : Type 0 where
  pub here : IfSome now IsOpenable
  pub each : EachMomentSince (λ told. IfSome told IsOpenable) old new

-- what the files of a folder show of the cause of each refusal
abbrev pub ShowsDeskFault : FileMap → DeskOpenFault → Type 0
ShowsDeskFault held DeskFault = ⊤
ShowsDeskFault held TooMany = 200 < rows_count (finmap.keys held)
ShowsDeskFault held (BadFile name kind place) =
    (rows_count (finmap.keys held) ≤ 200)
    × (first_bad_in held
    ≡ Some (string_bytes {Z = Global} name, record { kind = kind; place = place }))
ShowsDeskFault held NoMemory = ⊤

-- a refusal that judges the files
abbrev pub IsJudged : DeskOpenFault → Type 0
IsJudged TooMany = ⊤
IsJudged (BadFile _ _ _) = ⊤
IsJudged _ = ⊥
