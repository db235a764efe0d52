-- The slots of a desktop as a list: one that gets a database or changes, and one that comes behind the last.
use Rattle.std.proofs.Common.{◌≡◌, ◌∙◌, ◌⊎◌, ◌<◌, ◌≤◌, ℕ, zero, suc, List, [], ◌∷◌, ◌++◌, map, length, get_or, set, Some}
use Rattle.std.proofs.Common.{Result, Ok, Err, refl, sym, ap, subst, arith, rules}
use Rattle.std.specs.List.{AllByRecursion}
use Rattle.std.proofs.lemmas.Bool.{eqb-false, eqb-true, ltb-false, ltb-true}
use Rattle.std.proofs.lemmas.List.{get_or-set_other, get_or-set_same, length-append, length-map, length-set}
use Rattle.pdb_values.specs.Databases.{DatabaseValue}
use Rattle.pdb_values.specs.NamedDatabases.{database_of}
use Rattle.pdb_values.specs.declared.user.Marks.{Marks}
use Rattle.pdb_values.proofs.NamedLaws.{bytes_eq-is, bytes_eq-own}
use Rattle.desk_store.specs.Finds.{Adds, KeepsForm, with_database_at}
use Rattle.desk_store.specs.declared.file_fault.BadDeskFile.{BadDeskFile}
use Rattle.desk_store.specs.declared.file.DeskFile.{DeskFile}
use Rattle.desk_store.specs.declared.file.DeskFile.TheVariants as files
use Rattle.folder_files.specs.Partings.{PartedRise}
use Rattle.folder_files.specs.Slots.{AllRise, SlotInfoValue, all_marks}
use Rattle.desk_store.specs.Shelves.{AreInOrder, AreOrdered, SlotValue, bare_slot, info_of, infos_of, marks_of, new_slot, number_of, shelf_at, slot_at}
use Rattle.desk_store.specs.Shelves.{with_place}
use Rattle.desk_store.specs.declared.role.Role.{Role}
use Rattle.desk_store.proofs.OrderLaws.{database_of-with, ordered_with}
use Rattle.std.proofs.lemmas.Grind.{common_steps}
use Rattle.std.proofs.lemmas.Bool.Decides.{nat_tests}

-- ---- one slot among the others

pub slot_at-set_same : (slots : List SlotValue) (place : ℕ) (slot : SlotValue) → place < length slots → slot_at (set slots place slot) place ≡ slot
slot_at-set_same slots place slot less = search (rules, get_or-set_same)

pub slot_at-any : (slots : List SlotValue) (place : ℕ) (d e : SlotValue) → place < length slots → get_or slots place d ≡ get_or slots place e
slot_at-any [] place d e less = absurd (omega arith)
slot_at-any (slot ∷ slots) zero d e less = refl
slot_at-any (slot ∷ slots) (suc place) d e less = slot_at-any slots place d e (omega arith)

pub slot_at-set_other : (slots : List SlotValue) {place other : ℕ} (slot : SlotValue) → other < length slots → (other ≡ place → ⊥)
    → slot_at (set slots place slot) other ≡ slot_at slots other
slot_at-set_other slots slot less apart = grind (arith, common_steps, nat_tests, get_or-set_other, slot_at-any)

pub each-set : (P : SlotValue → Type 0) (slots : List SlotValue) (place : ℕ) (slot : SlotValue) → AllByRecursion P slots → P slot
    → AllByRecursion P (set slots place slot)
each-set P [] place slot each here = tt
each-set P (first ∷ slots) zero slot each here = (here, each.1)
each-set P (first ∷ slots) (suc place) slot each here = (each.0, each-set P slots place slot each.1 here)

pub each-at : (P : SlotValue → Type 0) (slots : List SlotValue) (place : ℕ) (d : SlotValue) → AllByRecursion P slots → P d → P (get_or slots place d)
each-at P [] place d each here = here
each-at P (slot ∷ slots) zero d each here = each.0
each-at P (slot ∷ slots) (suc place) d each here = each-at P slots place d each.1 here

-- ---- a database more in a slot

infos_of-set : (slots : List SlotValue) (place : ℕ) (slot d : SlotValue) → info_of slot ≡ info_of (get_or slots place d)
    → infos_of (set slots place slot) ≡ infos_of slots
infos_of-set [] place slot d is = refl
infos_of-set (first ∷ slots) zero slot d is = ap (λ (known : SlotInfoValue). known ∷ infos_of slots) is
infos_of-set (first ∷ slots) (suc place) slot d is =
    ap (λ (infos : List SlotInfoValue). info_of first ∷ infos) (infos_of-set slots place slot d is)

pub infos_of-with : (slot : ℕ) (role : Role) (database : DatabaseValue) (slots : List SlotValue)
    → infos_of (with_database_at slot role database slots) ≡ infos_of slots
infos_of-with slot role database slots = infos_of-set slots slot _ (new_slot (number_of slots)) refl

pub length-with : (slot : ℕ) (role : Role) (database : DatabaseValue) (slots : List SlotValue)
    → length (with_database_at slot role database slots) ≡ length slots
length-with slot role database slots = length-set slots slot _

no_database : (info : SlotInfoValue) → AreOrdered (bare_slot info).shelves
no_database info = record { rows = tt; bases = tt; archives = tt }

pub ordered_at : (slots : List SlotValue) (place : ℕ) → AreInOrder slots → AreOrdered (slot_at slots place).shelves
ordered_at slots place ordered = search (rules, each-at, no_database)

pub form-with : (slot : ℕ) (role : Role) (database : DatabaseValue) (slots : List SlotValue) → KeepsForm slots (with_database_at slot role database slots)
form-with slot role database slots = search (rules, infos_of-with, each-set, ordered_with, ordered_at)

pub same_form : (slots : List SlotValue) → KeepsForm slots slots
same_form slots = record { marked = refl; ordered = λ ordered. ordered }

pub form_on : {first mid last : List SlotValue} → KeepsForm first mid → KeepsForm mid last → KeepsForm first last
form_on front back = search (rules)

pub adds_form : (said : Result DeskFile BadDeskFile) {old new : List SlotValue} → Adds said old new → KeepsForm old new
adds_form (Ok (files.Database slot role database)) {old} adds = subst (KeepsForm old) (sym adds) (form-with slot role database old)
adds_form (Ok files.Other) {old} adds = subst (KeepsForm old) (sym adds) (same_form old)
adds_form (Err bad) adds = absurd adds

-- what is known of the users is among what an information file says
pub marks-infos : (slots : List SlotValue) → all_marks (infos_of slots) ≡ marks_of slots
marks-infos [] = refl
marks-infos (slot ∷ slots) = ap (λ (marks : List Marks). slot.marks ∷ marks) (marks-infos slots)

pub marks_of-as : (old new : List SlotValue) → infos_of new ≡ infos_of old → marks_of new ≡ marks_of old
marks_of-as old new is = sym (marks-infos new) ∙ (ap all_marks is ∙ marks-infos old)

-- those that took no part in each slot
abbrev EachRises : List SlotValue → Type 0
EachRises slots = AllByRecursion (λ slot. PartedRise slot.parted) slots

rise-slots : (slots : List SlotValue) → AllRise (infos_of slots) → EachRises slots
rise-slots [] rise = tt
rise-slots (slot ∷ slots) rise = (rise.0, rise-slots slots rise.1)

rise-infos : (slots : List SlotValue) → EachRises slots → AllRise (infos_of slots)
rise-infos [] rise = tt
rise-infos (slot ∷ slots) rise = (rise.0, rise-infos slots rise.1)

none_rise : PartedRise []
none_rise = record { few = omega arith; rise = tt }

pub parted_at : (slots : List SlotValue) (place : ℕ) → AllRise (infos_of slots) → PartedRise (slot_at slots place).parted
parted_at slots place rise = each-at (λ slot. PartedRise slot.parted) slots place (new_slot (number_of slots)) (rise-slots slots rise) none_rise

rise-push : (slots : List SlotValue) (slot : SlotValue) → EachRises slots → PartedRise slot.parted → EachRises (slots ++ slot ∷ [])
rise-push [] slot rise here = (here, tt)
rise-push (first ∷ slots) slot rise here = (rise.0, rise-push slots slot rise.1 here)

pub marks-length : (slots : List SlotValue) → length (marks_of slots) ≡ length slots
marks-length slots = length-map slots (λ slot. slot.marks)

pub same_count : {old new : List SlotValue} → KeepsForm old new → length new ≡ length old
same_count form = grind (arith, common_steps, nat_tests, length-map)

pub bare_in_order : (infos : List SlotInfoValue) → AreInOrder (map bare_slot infos)
bare_in_order [] = tt
bare_in_order (info ∷ infos) = (no_database info, bare_in_order infos)

-- what is looked up is the database, or else what was there
abbrev pub IsFound : ℕ → Role → DatabaseValue → List SlotValue → ℕ → Role → List ℕ → Type 0
IsFound slot role database slots place own name =
    (place ≡ slot) × (own ≡ role) × (database.head.name ≡ name) ×
    (database_of name (shelf_at (with_database_at slot role database slots) place own) ≡ Some database)
    ⊎ ((place ≡ slot → own ≡ role → database.head.name ≡ name → ⊥) ×
    (database_of name (shelf_at (with_database_at slot role database slots) place own) ≡ database_of name (shelf_at slots place own)))

pub database_of-with_at : (slot : ℕ) (role : Role) (database : DatabaseValue) (slots : List SlotValue) (place : ℕ) (own : Role) (name : List ℕ)
    → place < length slots → IsFound slot role database slots place own name
database_of-with_at slot role database slots place own name less =
    search (rules, slot_at-set_same, bytes_eq-is, bytes_eq-own, eqb-false, slot_at-set_other, eqb-true, database_of-with)

-- ---- a slot behind the last

-- the place is there, or the one behind the last
pub with_place-cases : (P : List SlotValue → Type 0) (slots : List SlotValue) (place : ℕ) → place ≤ length slots → (place < length slots → P slots)
    → (place ≡ length slots → P (slots ++ new_slot (number_of slots) ∷ [])) → P (with_place slots place)
with_place-cases P slots place near there behind = search (rules, ltb-true, ltb-false)

pub number_of-push : (slots : List SlotValue) (slot : SlotValue) → 0 < length slots → number_of (slots ++ slot ∷ []) ≡ number_of slots
number_of-push [] slot some = absurd (omega arith)
number_of-push (first ∷ slots) slot some = refl

-- a slot behind the last changes no look-up: what is behind the last is a new slot
pub slot_at-push : (slots : List SlotValue) (place : ℕ) → 0 < length slots → place ≤ length slots
    → slot_at (slots ++ new_slot (number_of slots) ∷ []) place ≡ slot_at slots place
slot_at-push slots place some near = grind (arith, common_steps, nat_tests, number_of-push)

-- with the place there, each slot is looked up as before
pub slot_at-place : (slots : List SlotValue) (place other : ℕ) → 0 < length slots → place ≤ length slots → other < length (with_place slots place)
    → slot_at (with_place slots place) other ≡ slot_at slots other
slot_at-place slots place other some near = grind (arith, common_steps, nat_tests, with_place-cases, slot_at-push, length-append)

pub place_there : (slots : List SlotValue) (place : ℕ) → place ≤ length slots → place < length (with_place slots place)
place_there slots place near = grind (arith, common_steps, nat_tests, with_place-cases, length-append)

pub few_places : (slots : List SlotValue) (place : ℕ) → place ≤ length slots → place < 16 → length slots ≤ 16 → length (with_place slots place) ≤ 16
few_places slots place near room few = grind (arith, common_steps, nat_tests, with_place-cases, length-append)

-- with one slot changed, the stems of each rise
pub rise-commit : (slots : List SlotValue) (place : ℕ) (slot : SlotValue) → place ≤ length slots → PartedRise slot.parted → AllRise (infos_of slots)
    → AllRise (infos_of (set (with_place slots place) place slot))
rise-commit slots place slot near here rise =
    let before : EachRises (with_place slots place) = with_place-cases EachRises slots place near (λ _. rise-slots slots rise)
    (λ _. rise-push slots (new_slot (number_of slots)) (rise-slots slots rise) none_rise) in
    rise-infos (set (with_place slots place) place slot) (each-set (λ slot. PartedRise slot.parted) (with_place slots place) place slot before here)
