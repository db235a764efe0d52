-- What the slots of an opened desktop keep as the types of their values do.
use Rattle.std.specs.Prelude.{◌≡◌, ◌<◌, ◌≤◌, ◌^◌, ◌==◌, List, false, length}
use Rattle.std.specs.List.{AllByRecursion, list_any}
use Rattle.pdb_values.specs.declared.user.Marks.{Marks}
use Rattle.palm_device.specs.Bounds.{IsBoundedDatabase}
use Rattle.desk_store.specs.Shelves.{ShelvesValue, SlotValue}

-- numbers and a date of 32 bits, and a name of at most 40 bytes, none of them zero
pub record AreBoundedMarks (marks : Marks) : Type 0 where
  pub number : marks.user < 2 ^ 32
  pub pc : marks.pc < 2 ^ 32
  pub last : marks.last < 2 ^ 32
  pub short : length marks.name ≤ 40
  pub no_zero : list_any (λ byte. byte == 0) marks.name ≡ false

-- rows, base rows and archives within the bounds of databases
pub record AreBoundedShelves (shelves : ShelvesValue) : Type 0 where
  pub rows : AllByRecursion IsBoundedDatabase shelves.rows
  pub bases : AllByRecursion IsBoundedDatabase shelves.bases
  pub archives : AllByRecursion IsBoundedDatabase shelves.archives

-- both
pub record IsBoundedSlot (slot : SlotValue) : Type 0 where
  pub marks : AreBoundedMarks slot.marks
  pub shelves : AreBoundedShelves slot.shelves

-- each of the slots
abbrev pub AreBounded : List SlotValue → Type 0
AreBounded slots = AllByRecursion IsBoundedSlot slots

-- slots that are bounded stay so
abbrev pub KeepsBounds : List SlotValue → List SlotValue → Type 0
KeepsBounds old new = AreBounded old → AreBounded new
