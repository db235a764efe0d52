-- Databases that took no part, one of them put among the others: their stems go on rising, and a look-up finds it.
use Rattle.std.proofs.lemmas.Bool.Decides.{nat_tests}
use Rattle.std.proofs.lemmas.Grind.{common_steps}
use Rattle.std.proofs.Common.{◌≡◌, ℕ, suc, ◌+◌, ◌≤◌, Bool, true, false, cond, List, [], ◌∷◌, length, Some, refl, sym, ap, subst, ◌∙◌, arith}
use Rattle.std.specs.Prelude.{bytes_eq, insert, slice_get, slice_set}
use Rattle.std.specs.Option.{option_map_or}
use Rattle.pdb_values.specs.Stems.{stem_of}
use Rattle.pdb_values.proofs.NamedLaws.{bytes_eq-is, bytes_eq-other, bytes_eq-own, comes_before-differs, comes_before-other}
use Rattle.pdb_values.proofs.StemLaws.{stem_of_injective}
use Rattle.folder_files.specs.Partings.{StemsRise, leads, parting_of, place_among, stem_before, with_one}
use Rattle.folder_files.specs.declared.parted.Parted.{Parted}

-- ---- stems of names

-- of two names that differ, the stem of one stands before that of the other
stem_before-other : (name other : List ℕ) → stem_before other name ≡ false → bytes_eq other name ≡ false → stem_before name other ≡ true
stem_before-other name other later differ =
    comes_before-other (stem_of name) (stem_of other) later
    (bytes_eq-other (stem_of name) (stem_of other) (λ e. let same : bytes_eq other name ≡ true = subst (λ (n : List ℕ). bytes_eq other n ≡ true)
    (stem_of_injective other name (sym e)) (bytes_eq-own other) in cc))

-- a name whose stem stands before that of another differs from it
stem_before-differs : (name other : List ℕ) → stem_before name other ≡ true → name ≡ other → ⊥
stem_before-differs name other before e =
    let same : bytes_eq (stem_of name) (stem_of other) ≡ true = subst (λ (n : List ℕ). bytes_eq (stem_of name) (stem_of n) ≡ true) e (bytes_eq-own (stem_of name)) in
    let differ = comes_before-differs (stem_of name) (stem_of other) before in
    cc

-- ---- the order

leads-with_one : (name : List ℕ) (one : Parted) (parted : List Parted) → leads name parted ≡ true → stem_before name one.name ≡ true
    → leads name (with_one one parted) ≡ true
leads-with_one name one [] first before = before
leads-with_one name one (next ∷ parted) first before = by (stem_before next.name one.name) (bytes_eq next.name one.name)
  where
    by : (later same : Bool) → leads name (cond later (next ∷ with_one one parted) (cond same (one ∷ parted) (one ∷ next ∷ parted))) ≡ true
    by true same = first
    by false true = before
    by false false = before

pub StemsRise-with_one : (one : Parted) (parted : List Parted) → StemsRise parted → StemsRise (with_one one parted)
StemsRise-with_one one [] rise = (refl, tt)
StemsRise-with_one one (next ∷ parted) rise = by (stem_before next.name one.name) (bytes_eq next.name one.name) refl refl (StemsRise-with_one one parted rise.1)
  where
    by : (later same : Bool) → stem_before next.name one.name ≡ later → bytes_eq next.name one.name ≡ same → StemsRise (with_one one parted)
        → StemsRise (cond later (next ∷ with_one one parted) (cond same (one ∷ parted) (one ∷ next ∷ parted)))
    by true same before is others = (leads-with_one next.name one parted rise.0 before, others)
    by false true before is others = (subst (λ (n : List ℕ). leads n parted ≡ true) (bytes_eq-is next.name one.name is) rise.0, rise.1)
    by false false before is others = (stem_before-other one.name next.name before is, rise)

pub length-with_one : (one : Parted) (parted : List Parted) → length (with_one one parted) ≤ length parted + 1
length-with_one one [] = omega arith
length-with_one one (next ∷ parted) = by (stem_before next.name one.name) (bytes_eq next.name one.name) (length-with_one one parted)
  where
    by : (later same : Bool) → length (with_one one parted) ≤ length parted + 1
        → length (cond later (next ∷ with_one one parted) (cond same (one ∷ parted) (one ∷ next ∷ parted))) ≤ length (next ∷ parted) + 1
    by true same few = omega arith
    by false true few = omega arith
    by false false few = omega arith

-- ---- a look-up

pub parting_of-with_one : (name : List ℕ) (one : Parted) (parted : List Parted)
    → parting_of name (with_one one parted) ≡ cond (bytes_eq one.name name) (Some one.how) (parting_of name parted)
parting_of-with_one name one [] = grind arith
parting_of-with_one name one (next ∷ parted) = grind (arith, nat_tests, common_steps, parting_of-with_one name one parted, bytes_eq-is, stem_before-differs)

-- ---- places

-- a database of this name stands at a place
abbrev Stands : List ℕ → List Parted → ℕ → Bool
Stands name parted place = option_map_or (λ (one : Parted). bytes_eq one.name name) (slice_get parted place) false

-- the place is taken, or is made
abbrev Placed : Bool → Parted → List Parted → ℕ → List Parted
Placed there one parted place = cond there (slice_set parted place one) (insert parted place one)

placed_behind : (there : Bool) (one next : Parted) (parted : List Parted) (place : ℕ) → Placed there one (next ∷ parted) (suc place) ≡ next ∷ Placed there one parted place
placed_behind true one next parted place = refl
placed_behind false one next parted place = refl

with_one-placed : (one : Parted) (parted : List Parted)
    → with_one one parted ≡ Placed (Stands one.name parted (place_among one.name parted)) one parted (place_among one.name parted)
with_one-placed one [] = refl
with_one-placed one (next ∷ parted) = by (stem_before next.name one.name) (bytes_eq next.name one.name) refl (with_one-placed one parted)
  where
    by : (later same : Bool) → bytes_eq next.name one.name ≡ same
        → with_one one parted ≡ Placed (Stands one.name parted (place_among one.name parted)) one parted (place_among one.name parted)
        → cond later (next ∷ with_one one parted) (cond same (one ∷ parted) (one ∷ next ∷ parted))
        ≡ Placed (Stands one.name (next ∷ parted) (cond later (1 + place_among one.name parted) 0)) one (next ∷ parted)
        (cond later (1 + place_among one.name parted) 0)
    by true same named rest =
        let behind : 1 + place_among one.name parted ≡ suc (place_among one.name parted) = omega arith in
        rw behind (ap (λ (p : List Parted). next ∷ p) rest ∙ sym (placed_behind _ one next parted (place_among one.name parted)))
    by false true named rest = rw named refl
    by false false named rest = rw named refl

pub with_one-place : (one : Parted) (parted : List Parted) (place : ℕ) (there : Bool) → place ≡ place_among one.name parted
    → there ≡ option_map_or (λ (other : Parted). bytes_eq other.name one.name) (slice_get parted place) false
    → with_one one parted ≡ cond there (slice_set parted place one) (insert parted place one)
with_one-place one parted place there at is = with_one-placed one parted ∙ rw (is, at) refl

-- ---- an answer

-- what was looked at are these databases
abbrev Looks : Parted → List Parted → List Parted → List Parted → ℕ → Bool → Type 0
Looks one parted seen looked place there =
    (seen ≡ parted) × (looked ≡ parted) × (place ≡ place_among one.name seen)
    × (there ≡ option_map_or (λ (other : Parted). bytes_eq other.name one.name) (slice_get looked place) false)

looked_at : (one : Parted) (parted seen looked : List Parted) (place : ℕ) (there : Bool) → Looks one parted seen looked place there
    → with_one one parted ≡ cond there (slice_set parted place one) (insert parted place one)
looked_at one parted seen looked place there is =
    with_one-place one parted place there (is.2 ∙ ap (place_among one.name) is.0)
    (is.3 ∙ ap (λ (p : List Parted). option_map_or (λ (other : Parted). bytes_eq other.name one.name) (slice_get p place) false) is.1)

pub with_one-set : (one : Parted) (parted seen looked : List Parted) (place : ℕ) (there : Bool) → Looks one parted seen looked place there → there ≡ true
    → slice_set parted place one ≡ with_one one parted
with_one-set one parted seen looked place there is taken = sym (looked_at one parted seen looked place there is ∙ rw taken refl)

pub with_one-insert : (one : Parted) (parted seen looked : List Parted) (place : ℕ) (there : Bool) → Looks one parted seen looked place there → there ≡ false
    → insert parted place one ≡ with_one one parted
with_one-insert one parted seen looked place there is free = sym (looked_at one parted seen looked place there is ∙ rw free refl)

pub rises_as : (one : Parted) (parted new : List Parted) → new ≡ with_one one parted → StemsRise parted → StemsRise new
rises_as one parted new is rise = subst StemsRise (sym is) (StemsRise-with_one one parted rise)
