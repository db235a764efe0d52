-- The place of the first that passes a test.
use Rattle.std.proofs.lemmas.Bool.Decides.{nat_tests}
use Rattle.std.proofs.lemmas.Grind.{common_steps}
use Rattle.std.proofs.Common.{◌≡◌, ℕ, zero, suc, ◌+◌, ◌<◌, ◌≤◌, Bool, true, cond, List, [], ◌∷◌, length, Some, None, slice_get, arith, refl}
use Rattle.std.specs.Prelude.{find, is_some, not, option_and_then, position, nat_lt}
use Rattle.std.specs.List.{position_or_len}
use Rattle.std.specs.Option.{option_map}
use Rattle.std.proofs.lemmas.List.Sums.{prefix_len-le-length}

found_by : (first len k : ℕ) (b : Bool) → nat_lt first len ≡ b → cond b (Some first) None ≡ Some k → (first ≡ k) × (k < len)
found_by first len k b below is = grind arith

-- the place that a search found is the first that passes, and lies within
pub position_found : {X : Type 0} (test : X → Bool) (xs : List X) (k : ℕ) → position test xs ≡ Some k → (position_or_len test xs ≡ k)
    × (k < length xs)
position_found test xs k found = grind arith

none_by : (first len : ℕ) (b : Bool) → nat_lt first len ≡ b → cond b (Some first) None ≡ None → len ≤ first
none_by first len b below is = grind arith

pub position_none : {X : Type 0} (test : X → Bool) (xs : List X) → position test xs ≡ None → length xs ≤ position_or_len test xs
position_none test xs none = grind arith

some_within : {X : Type 0} (xs : List X) (k : ℕ) → k < length xs → slice_get xs k ≡ None → ⊥
some_within [] k within none = omega arith
some_within (x ∷ xs) zero within none = cc
some_within (x ∷ xs) (suc k) within none = some_within xs k (omega arith) none

-- there is an entry at the place that a search found
pub position_within : {X : Type 0} (test : X → Bool) (xs : List X) (k : ℕ) → position test xs ≡ Some k → slice_get xs k ≡ None → ⊥
position_within test xs k found none = some_within xs k (position_found test xs k found).1 none

-- the first place that passes, or the length
pub place_found : {X : Type 0} (test : X → Bool) (xs : List X) (k : ℕ) → position test xs ≡ Some k → position_or_len test xs ≡ k
place_found test xs k found = (position_found test xs k found).0

pub place_past : {X : Type 0} (test : X → Bool) (xs : List X) → position test xs ≡ None → position_or_len test xs ≡ length xs
place_past test xs none = grind (arith, nat_tests, common_steps, prefix_len-le-length, position_none)

pub first_here : (b : Bool) (n : ℕ) → cond (not b) (1 + n) 0 ≡ 0 → b ≡ true
first_here b n is = grind arith

-- ---- a search in a longer list

-- where the first of a list passes, its place is 0, and else one more than in the rest
pub position-cons : {X : Type 0} (test : X → Bool) (x : X) (xs : List X)
    → position test (x ∷ xs) ≡ cond (test x) (Some 0) (option_map (λ place. suc place) (position test xs))
position-cons test x xs = grind arith

-- what a search finds stands at its place
pub find-position : {X : Type 0} (test : X → Bool) (xs : List X) → find test xs ≡ option_and_then (slice_get xs) (position test xs)
find-position test [] = refl
find-position test (x ∷ xs) = grind (arith, nat_tests, common_steps, find-position test xs)

-- a search finds something where it finds a place
pub is_some-position : {X : Type 0} (test : X → Bool) (xs : List X) → is_some (position test xs) ≡ is_some (find test xs)
is_some-position test [] = refl
is_some-position test (x ∷ xs) = grind (arith, nat_tests, common_steps, is_some-position test xs)
