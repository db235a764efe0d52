-- What contracts see of an opened desktop, and of what a call answers.
use Rattle.std.specs.Prelude.{ℕ, List, Result, Ok, Err}
use Rattle.pdb_values.specs.declared.user.Marks.{Marks}
use Rattle.folder_files.specs.declared.parted.Parted.{Parted}
use Rattle.desk_store.specs.Shelves.{ShelvesValue, SlotValue, slot_at}

-- a desktop is its folder, its slots in the order of their numbers, and the place of the picked one
pub record DeskValue (F : Type 0) : Type 0 where
  pub folder : F
  pub slots : List SlotValue
  pub picked : ℕ

-- the picked slot: one of them, or a new one behind the last
abbrev pub picked_slot : {F : Type 0} → DeskValue F → SlotValue
picked_slot desk = slot_at desk.slots desk.picked

-- what is known of its user, its databases that took no part in its last session, and its databases
abbrev pub marks_in : {F : Type 0} → DeskValue F → Marks
marks_in desk = (picked_slot desk).marks

abbrev pub parted_in : {F : Type 0} → DeskValue F → List Parted
parted_in desk = (picked_slot desk).parted

abbrev pub shelves_in : {F : Type 0} → DeskValue F → ShelvesValue
shelves_in desk = (picked_slot desk).shelves

-- the folder that is handed back, or that the desktop has
abbrev pub folder_in : {F E : Type 0} → Result (DeskValue F) (E × F) → F
folder_in (Ok desk) = desk.folder
folder_in (Err refusal) = refusal.1
