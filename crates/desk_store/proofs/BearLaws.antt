-- The marks of slots, one of which changed: they are those of one desktop, with users that differ.
use Rattle.std.proofs.Common.{◌≡◌, ◌<◌, ◌≤◌, ◌∙◌, ℕ, zero, suc, List, [], ◌∷◌, ◌++◌, length, get_or, set, refl, sym, ap, subst, arith}
use Rattle.std.proofs.Common.{rules}
use Rattle.std.specs.List.{AllByRecursion}
use Rattle.std.proofs.lemmas.Bool.{eqb-false, eqb-true}
use Rattle.std.proofs.lemmas.List.{get_or-set_other, get_or-set_same, get_or_append_left, length-append, length-map, length-set, map-append, map-set}
use Rattle.pdb_values.specs.declared.user.Marks.{Marks}
use Rattle.folder_files.specs.Slots.{AreSlots, AreUsers, pc_of, users_of}
use Rattle.desk_store.specs.Changes.{MayBear}
use Rattle.desk_store.specs.Desks.{IsPlace}
use Rattle.desk_store.specs.Shelves.{SlotValue, marks_of, number_of, with_place}
use Rattle.desk_store.proofs.SlotListLaws.{few_places, marks-length, place_there, with_place-cases}
use Rattle.std.proofs.lemmas.Grind.{common_steps}
use Rattle.std.proofs.lemmas.Bool.Decides.{nat_tests}

pc_of-set : (slots : List Marks) (place : ℕ) (marks : Marks) → marks.pc ≡ pc_of slots → pc_of (set slots place marks) ≡ pc_of slots
pc_of-set (first ∷ slots) zero marks is = is
pc_of-set slots place marks is = refl

each-set : (P : Marks → Type 0) (slots : List Marks) (place : ℕ) (marks : Marks) → AllByRecursion P slots → P marks → AllByRecursion P (set slots place marks)
each-set P [] place marks each here = tt
each-set P (first ∷ slots) zero marks each here = (here, each.1)
each-set P (first ∷ slots) (suc place) marks each here = (each.0, each-set P slots place marks each.1 here)

each-push : (P : Marks → Type 0) (slots : List Marks) (marks : Marks) → AllByRecursion P slots → P marks → AllByRecursion P (slots ++ marks ∷ [])
each-push P [] marks each here = (here, tt)
each-push P (first ∷ slots) marks each here = (each.0, each-push P slots marks each.1 here)

users-length : (slots : List SlotValue) → length (users_of (marks_of slots)) ≡ length slots
users-length slots = length-map (marks_of slots) (λ marks. marks.user) ∙ marks-length slots

-- the number of the desktop stays where a slot comes behind the last
pub place_number : (slots : List SlotValue) (place : ℕ) → 0 < length slots → place ≤ length slots → number_of (with_place slots place) ≡ number_of slots
place_number slots place some near = grind (arith, common_steps, nat_tests, with_place-cases)

place_one : (slots : List SlotValue) (place : ℕ) → place ≤ length slots → AllByRecursion (λ marks. marks.pc ≡ number_of slots) (marks_of slots)
    → AllByRecursion (λ marks. marks.pc ≡ number_of slots) (marks_of (with_place slots place))
place_one slots place near each = grind (arith, common_steps, nat_tests, with_place-cases, map-append, each-push)

-- the user of another slot is that of before
pub record IsOther (slots there : List SlotValue) (other : ℕ) : Type 0 where
  pub before : other < length slots
  pub same : get_or (users_of (marks_of there)) other 0 ≡ get_or (users_of (marks_of slots)) other 0

other_user : (slots : List SlotValue) {place other : ℕ} → place ≤ length slots → other < length (with_place slots place) → (other ≡ place → ⊥)
    → IsOther slots (with_place slots place) other
other_user slots near = search (rules, with_place-cases, length-append, map-append, get_or_append_left, users-length)

users_changed : {slots : List SlotValue} {place : ℕ} {marks : Marks} → IsPlace slots place → AreUsers (users_of (marks_of slots)) → MayBear slots place marks
    → AreUsers (set (users_of (marks_of (with_place slots place))) place marks.user)
users_changed at users may i j less short =
    search (rules, length-set, users-length, get_or-set_same, place_there, other_user, get_or-set_other, eqb-true, eqb-false)

pub bears : {slots : List SlotValue} {place : ℕ} (slot : SlotValue) → IsPlace slots place → AreSlots (marks_of slots) → MayBear slots place slot.marks
    → AreSlots (marks_of (set (with_place slots place) place slot))
bears {slots} {place} slot at formed may =
    let there = with_place slots place in
    let some : 0 < length slots = omega (arith, formed.some, marks-length slots) in
    let marks : marks_of (set there place slot) ≡ set (marks_of there) place slot.marks = map-set (λ (s : SlotValue). s.marks) there place slot in
    let number : pc_of (set (marks_of there) place slot.marks) ≡ number_of slots = pc_of-set (marks_of there) place slot.marks
    (may.number ∙ sym (place_number slots place some at.near)) ∙ place_number slots place some at.near in
    let count : length (set (marks_of there) place slot.marks) ≡ length there = length-set (marks_of there) place slot.marks ∙ marks-length there in
    subst AreSlots (sym marks) (record {
      some = omega (arith, count, place_there slots place at.near);
      few = omega (arith, count, few_places slots place at.near at.room (omega (arith, formed.few, marks-length slots)));
      number = subst (λ (n : ℕ). 0 < n) (sym number) formed.number;
      one_desktop = subst (λ (n : ℕ). AllByRecursion (λ m. m.pc ≡ n) (set (marks_of there) place slot.marks)) (sym number)
          (each-set (λ m. m.pc ≡ number_of slots) (marks_of there) place slot.marks (place_one slots place at.near formed.one_desktop) may.number);
      users = subst AreUsers (sym (map-set (λ (m : Marks). m.user) (marks_of there) place slot.marks)) (users_changed at formed.users may);
    })

-- ---- the test

pub user_at : (slots : List SlotValue) (place : ℕ) {slot : SlotValue} → place < length slots → slot ≡ get_or slots place slot
    → get_or (users_of (marks_of slots)) place 0 ≡ slot.marks.user
user_at [] place less is = absurd (omega arith)
user_at (first ∷ slots) zero less is = ap (λ (s : SlotValue). s.marks.user) (sym is)
user_at (first ∷ slots) (suc place) less is = user_at slots place (omega arith) is

number_at : (slots : List SlotValue) {first : SlotValue} → 0 < length slots → first ≡ get_or slots 0 first → number_of slots ≡ first.marks.pc
number_at slots some is = grind (arith, common_steps, nat_tests)
