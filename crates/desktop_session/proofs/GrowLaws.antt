-- A list grows by what each place of another one has.
use Rattle.std.proofs.Common.{◌≡◌, ◌≤◌, ◌+◌, refl, ap, ℕ, zero, suc, List, [], ◌∷◌, ◌++◌, map, take, length, append_assoc, add-one, arith}
use Rattle.std.proofs.lemmas.List.{map-append}
use Rattle.std.specs.Prelude.{Some, slice_get}
use Rattle.std.proofs.lemmas.Grind.{common_steps}
use Rattle.std.proofs.lemmas.Bool.Decides.{nat_tests}

pub take_next : {A : Type 0} (xs : List A) (k : ℕ) {x : A} → slice_get xs k ≡ Some x → take (k + 1) xs ≡ take k xs ++ x ∷ []
take_next [] k is = cc
take_next (y ∷ ys) zero {x} is = let same : y ≡ x = cc in cc
take_next (y ∷ ys) (suc k) is = rw add-one (let more = take_next ys k is in ap (λ zs. y ∷ zs) (rw add-one at more))

pub take_whole : {A : Type 0} (xs : List A) (k : ℕ) → length xs ≤ k → take k xs ≡ xs
take_whole [] zero past = refl
take_whole [] (suc k) past = refl
take_whole (y ∷ ys) zero past = absurd (omega arith)
take_whole (y ∷ ys) (suc k) past = ap (λ zs. y ∷ zs) (take_whole ys k (omega arith))

pub grows : {A B : Type 0} (f : A → B) (xs : List A) {now : List B} (first : List B) (k : ℕ) {x : A} → slice_get xs k ≡ Some x
    → now ≡ first ++ map f (take k xs) → now ++ f x ∷ [] ≡ first ++ map f (take (k + 1) xs)
grows f xs first k is before = grind (arith, common_steps, nat_tests, append_assoc, map-append, take_next xs k is)

pub whole : {A B : Type 0} (f : A → B) (xs : List A) {now : List B} (first : List B) (k : ℕ) → length xs ≤ k → now ≡ first ++ map f (take k xs)
    → now ≡ first ++ map f xs
whole f xs first k past before = cc (take_whole xs k past)

map_same : {A : Type 0} (xs : List A) → map (λ x. x) xs ≡ xs
map_same [] = refl
map_same (x ∷ xs) = cc (map_same xs)

pub whole_same : {A : Type 0} {now : List A} (xs first : List A) (k : ℕ) → length xs ≤ k → now ≡ first ++ map (λ x. x) (take k xs) → now ≡ first ++ xs
whole_same xs first k past before = grind (arith, common_steps, nat_tests, whole, map_same)
