-- Places in lists, tests one after the other, and texts of lists.
use Rattle.std.proofs.lemmas.Bool.Decides.{nat_tests}
use Rattle.std.proofs.lemmas.Grind.{common_steps}
use Rattle.std.proofs.Common.{◌≡◌, ℕ, zero, suc, ◌+◌, ◌≤◌, Bool, true, false, cond, List, [], ◌∷◌, ◌++◌, length, drop, Option, Some, None, refl, sym, ap, subst}
use Rattle.std.proofs.Common.{◌∙◌, append_assoc, add-one, arith}
use Rattle.std.specs.List.{flat_map, slice_get, AllByRecursion}
use Rattle.std.specs.Option.{SomeIff}
use Rattle.std.proofs.lemmas.List.{length-append}
use Rattle.dlp_replies.specs.Checks.{Checks, first_bad}

-- ---- tests

pub tests_pass : (front back : Checks) → first_bad front ≡ None → first_bad (front ++ back) ≡ first_bad back
tests_pass [] back e = refl
tests_pass ((place, true) ∷ front) back e = tests_pass front back e
tests_pass ((place, false) ∷ front) back e = absurd cc

pub tests_stop : (front back : Checks) (place : ℕ) → first_bad front ≡ Some place → first_bad (front ++ back) ≡ Some place
tests_stop [] back place e = absurd cc
tests_stop ((at, true) ∷ front) back place e = tests_stop front back place e
tests_stop ((at, false) ∷ front) back place e = e

pub test_passes : (ok : Bool) (o : Option ℕ) (place : ℕ) → cond ok o (Some place) ≡ None → (ok ≡ true) × (o ≡ None)
test_passes ok o place e = grind arith

pub both_pass : (front back : Checks) → first_bad (front ++ back) ≡ None → (first_bad front ≡ None) × (first_bad back ≡ None)
both_pass [] back e = (refl, e)
both_pass ((place, true) ∷ front) back e = both_pass front back e
both_pass ((place, false) ∷ front) back e = absurd cc

-- ---- places

pub from_place : {A : Type 0} (xs : List A) (place : ℕ) (x : A) → slice_get xs place ≡ Some x → drop place xs ≡ x ∷ drop (place + 1) xs
from_place [] place x e = absurd cc
from_place (y ∷ xs) zero x e = let is : y ≡ x = cc in ap (λ z. z ∷ xs) is
from_place (y ∷ xs) (suc place) x e = rw add-one (let more = from_place xs place x e in rw add-one at more)

drop_none : {A : Type 0} (place : ℕ) → (let none : List A = [] in drop place none) ≡ []
drop_none place = grind arith

pub at_place : {A : Type 0} (xs : List A) (place : ℕ) (x : A) (rest : List A) → drop place xs ≡ x ∷ rest → slice_get xs place ≡ Some x
at_place [] place x rest e = let none = sym (drop_none place) ∙ e in absurd cc
at_place (y ∷ xs) zero x rest e = cc
at_place (y ∷ xs) (suc place) x rest e = at_place xs place x rest e

pub past_place : {A : Type 0} (xs : List A) (place : ℕ) → drop place xs ≡ [] → slice_get xs place ≡ None
past_place [] place e = refl
past_place (y ∷ xs) zero e = absurd cc
past_place (y ∷ xs) (suc place) e = past_place xs place e

pub all_at : {A : Type 0} (P : A → Type 0) (xs : List A) (place : ℕ) (x : A) → AllByRecursion P xs → slice_get xs place ≡ Some x → P x
all_at P [] place x all e = absurd cc
all_at P (y ∷ xs) zero x all e = let is : y ≡ x = cc in subst P is all.0
all_at P (y ∷ xs) (suc place) x all e = all_at P xs place x all.1 e

pub some_iff : {A : Type 0} (o : Option A) (P : Type 0) (x : A) → SomeIff o P x → P → o ≡ Some x
some_iff o P x iff holds = grind arith

-- ---- texts of lists

-- what is still to be written from a place on
texts_left : {A : Type 0} (f : A → List ℕ) (xs : List A) (place : ℕ) (x : A) → slice_get xs place ≡ Some x
    → flat_map f (drop place xs) ≡ f x ++ flat_map f (drop (place + 1) xs)
texts_left f xs place x e = ap (flat_map f) (from_place xs place x e)

pub within_list : {A : Type 0} (xs : List A) (place : ℕ) → slice_get xs place ≡ None → length xs ≤ place
within_list [] place e = omega arith
within_list (x ∷ xs) zero e = absurd cc
within_list (x ∷ xs) (suc place) e = omega (arith, within_list xs place e)

-- one more text is written
pub text_added : {A : Type 0} (f : A → List ℕ) (xs : List A) (place : ℕ) (x : A) (out all : List ℕ) → slice_get xs place ≡ Some x
    → out ++ flat_map f (drop place xs) ≡ all → (out ++ f x) ++ flat_map f (drop (place + 1) xs) ≡ all
text_added f xs place x out all e is = grind (arith, nat_tests, common_steps, append_assoc, texts_left)

-- it fits where all of them do
pub text_fits : {A : Type 0} (f : A → List ℕ) (xs : List A) (place : ℕ) (x : A) (out all : List ℕ) → slice_get xs place ≡ Some x
    → out ++ flat_map f (drop place xs) ≡ all → length out + length (f x) ≤ length all
text_fits f xs place x out all e is =
    grind (
      arith,
      nat_tests,
      common_steps,
      text_added f xs place x out all e is,
      length-append (out ++ f x) (flat_map f (drop (place + 1) xs)),
      length-append out (f x),
    )

-- the lengths of texts add up
pub lengths_left : {A : Type 0} (f : A → List ℕ) (xs : List A) (place len : ℕ) (x : A) → slice_get xs place ≡ Some x
    → len + length (flat_map f (drop place xs)) ≡ length (flat_map f xs)
    → (len + length (f x)) + length (flat_map f (drop (place + 1) xs)) ≡ length (flat_map f xs)
lengths_left f xs place len x e is = let more = ap length (texts_left f xs place x e) in
    omega (arith, more, length-append (f x) (flat_map f (drop (place + 1) xs)), is)
