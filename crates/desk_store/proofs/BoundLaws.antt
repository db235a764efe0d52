-- Slots within bounds: one item of a list after the other, a database more in a slot, and a slot behind the last.
use Rattle.std.proofs.Common.{◌≡◌, ◌<◌, ◌≤◌, ◌^◌, ℕ, List, [], ◌∷◌, length, map, take, Result, subst, arith, rules}
use Rattle.std.specs.Prelude.{OnOk}
use Rattle.std.specs.List.{AllByRecursion}
use Rattle.std.proofs.lemmas.List.{take_all}
use Rattle.pdb_values.specs.Databases.{DatabaseValue}
use Rattle.folder_files.specs.Slots.{SlotInfoValue}
use Rattle.pdb_values.proofs.NamedLaws.{AllByRecursion-with_put}
use Rattle.palm_device.specs.Bounds.{IsBoundedDatabase}
use Rattle.desk_store.specs.Bounds.{AreBounded, AreBoundedMarks, AreBoundedShelves, IsBoundedSlot, KeepsBounds}
use Rattle.desk_store.specs.Finds.{with_database_at}
use Rattle.desk_store.specs.Shelves.{ShelvesValue, SlotValue, bare_slot, number_of, slot_at, with_database}
use Rattle.desk_store.specs.declared.role.Role.{Role}
use Rattle.desk_store.specs.declared.role.Role.TheVariants.{Rows, Base, Archive}
use Rattle.desk_store.proofs.SlotListLaws.{each-at, each-set}

-- all of it
pub each_taken : {X : Type 0} (P : X → Type 0) (xs : List X) (place : ℕ) → length xs ≤ place → AllByRecursion P (take place xs) → AllByRecursion P xs
each_taken P xs place past each = subst (AllByRecursion P) (take_all place xs past) each

-- ---- slots

-- a slot without databases
pub bounded_bare : (info : SlotInfoValue) → AreBoundedMarks info.marks → IsBoundedSlot (bare_slot info)
bounded_bare info is = search (rules)

pub bounded_bares : (infos : List SlotInfoValue) → AllByRecursion (λ info. AreBoundedMarks info.marks) infos → AreBounded (map bare_slot infos)
bounded_bares [] each = tt
bounded_bares (info ∷ infos) each = (bounded_bare info each.0, bounded_bares infos each.1)

-- the number of a desktop, where none of its slots is out of bounds
number_below : (slots : List SlotValue) → AreBounded slots → number_of slots < 2 ^ 32
number_below [] each = omega arith
number_below (slot ∷ slots) each = each.0.marks.pc

-- the slot at a place, or a new one behind the last
pub bounded_at : (slots : List SlotValue) (place : ℕ) → AreBounded slots → IsBoundedSlot (slot_at slots place)
bounded_at slots place each = search (rules, each-at, bounded_bare, number_below)

-- a database more
bounded_with : (role : Role) {new : DatabaseValue} {shelves : ShelvesValue} → IsBoundedDatabase new → AreBoundedShelves shelves
    → AreBoundedShelves (with_database role new shelves)
bounded_with Rows {new} {shelves} here is =
    record { rows = AllByRecursion-with_put IsBoundedDatabase new shelves.rows here is.rows; bases = is.bases; archives = is.archives }
bounded_with Base {new} {shelves} here is =
    record { rows = is.rows; bases = AllByRecursion-with_put IsBoundedDatabase new shelves.bases here is.bases; archives = is.archives }
bounded_with Archive {new} {shelves} here is =
    record { rows = is.rows; bases = is.bases; archives = AllByRecursion-with_put IsBoundedDatabase new shelves.archives here is.archives }

bounded_with_at : (slot : ℕ) (role : Role) {database : DatabaseValue} (slots : List SlotValue) → IsBoundedDatabase database
    → KeepsBounds slots (with_database_at slot role database slots)
bounded_with_at slot role slots here each = search (rules, bounded_at, each-set, bounded_with)

pub bounded_then : {A E : Type 0} (answer : Result A E) (slot : ℕ) (role : Role) {database : DatabaseValue} (old new : List SlotValue)
    → OnOk answer (new ≡ with_database_at slot role database old) → IsBoundedDatabase database → OnOk answer (KeepsBounds old new)
bounded_then answer slot role old new is here = search (rules, bounded_with_at)
