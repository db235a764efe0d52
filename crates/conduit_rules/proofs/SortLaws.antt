-- What a stable sort by ids leaves: a list in rising ids, with those of one id in their order.
use Rattle.std.proofs.Common.{◌≡◌, ℕ, suc, ◌+◌, ◌≤◌, ◌<◌, ◌==◌, List, [], ◌∷◌, ◌++◌, refl, ap, ◌∙◌, sym, subst, arith, Bool, true, filter, length}
use Rattle.std.proofs.Common.{get_or, take, drop, map}
use Rattle.std.specs.Ordering.{nat_cmp, is_lt}
use Rattle.std.specs.List.Sorted.{ties, IsStableByKey, IsNonDecreasingBy}
use Rattle.std.proofs.lemmas.Grind.{common_steps}
use Rattle.std.proofs.lemmas.Bool.Decides.{nat_tests}
use Rattle.std.proofs.lemmas.List.{take_more, length-map}
use Rattle.conduit_rules.specs.Runs.{placed_from, placed, under, IsRising, IsRunOf}

tie : {X : Type 0} (key : X → ℕ) (e x : X) → ties (λ a b. is_lt (nat_cmp (key a) (key b))) e x ≡ (key x == key e)
tie key e x = grind (arith)

filter-same : {X : Type 0} (p q : X → Bool) (xs : List X) → ((x : X) → p x ≡ q x) → filter p xs ≡ filter q xs
filter-same p q xs same = ap (λ r. filter r xs) (λ k x. same x k)

one_way : {X : Type 0} (key : X → ℕ) (xs ys : List X) → IsStableByKey key nat_cmp xs ys → (e : X)
    → filter (λ x. key x == key e) ys ≡ filter (λ x. key x == key e) xs
one_way key xs ys stable e =
    sym (filter-same (ties (λ a b. is_lt (nat_cmp (key a) (key b))) e) (λ x. key x == key e) ys (tie key e))
    ∙ stable e
    ∙ filter-same (ties (λ a b. is_lt (nat_cmp (key a) (key b))) e) (λ x. key x == key e) xs (tie key e)

passed_first : {X : Type 0} (p : X → Bool) (xs : List X) (e : X) (rest : List X) → filter p xs ≡ e ∷ rest → p e ≡ true
passed_first p [] e rest is = cc
passed_first {X} p (x ∷ xs) e rest is = grind (arith, common_steps, nat_tests, passed_first p xs e rest)

-- a stable sort by a key keeps those of each key in their order
pub same-by_key : {X : Type 0} (key : X → ℕ) (xs ys : List X) → IsStableByKey key nat_cmp xs ys → (i : ℕ)
    → filter (λ x. key x == i) ys ≡ filter (λ x. key x == i) xs
same-by_key {X} key xs ys stable i = go (filter (λ x. key x == i) xs) (filter (λ x. key x == i) ys) refl refl
  where
    at : (e : X) → (key e == i) ≡ true → filter (λ x. key x == i) ys ≡ filter (λ x. key x == i) xs
    at e is = subst (λ k. filter (λ x. key x == k) ys ≡ filter (λ x. key x == k) xs) (grind (arith, nat_tests, is)) (one_way key xs ys stable e)

    go : (a b : List X) → filter (λ x. key x == i) xs ≡ a → filter (λ x. key x == i) ys ≡ b → filter (λ x. key x == i) ys ≡ filter (λ x. key x == i) xs
    go (e ∷ a) b in_xs in_ys = at e (passed_first (λ x. key x == i) xs e a in_xs)
    go [] (e ∷ b) in_xs in_ys = at e (passed_first (λ x. key x == i) ys e b in_ys)
    go [] [] in_xs in_ys = in_ys ∙ sym in_xs

pub under-map : {X A : Type 0} (f : X → ℕ × A) (id : A → ℕ) (i : ℕ) (xs : List X) → under id i (map f xs) ≡ map f (filter (λ x. id (f x).1 == i) xs)
under-map f id i [] = refl
under-map {X} {A} f id i (x ∷ xs) = grind (arith, common_steps, nat_tests, under-map f id i xs)

pub rising-map : {X A : Type 0} (f : X → ℕ × A) (id : A → ℕ) (low : ℕ) (xs : List X) → ((k : ℕ) (d : X) → k < length xs → low ≤ id (f (get_or xs k d)).1)
    → IsNonDecreasingBy (λ x. id (f x).1) xs → IsRising id low (map f xs)
rising-map f id low [] above rising = tt
rising-map {X} f id low (x ∷ xs) above rising = (
  above 0 x (omega arith),
  rising-map f id (id (f x).1) xs
      (λ k d l. rising 0 (suc k) d (omega arith) (omega arith))
      (λ i j d r l. rising (suc i) (suc j) d (omega arith) (omega arith)),
)

pub drop-next : {A : Type 0} (n : ℕ) (xs : List A) → drop (n + 1) xs ≡ drop 1 (drop n xs)
drop-next (suc n) (x ∷ xs) = grind (arith, common_steps, nat_tests, drop-next n xs)
drop-next n xs = grind (arith, common_steps)

placed_push : {A : Type 0} (p : ℕ) (xs : List A) (x : A) → placed_from p (xs ++ x ∷ []) ≡ placed_from p xs ++ (p + length xs, x) ∷ []
placed_push {A} p [] x = grind (arith, common_steps, nat_tests)
placed_push {A} p (y ∷ xs) x = grind (arith, common_steps, nat_tests, placed_push (suc p) xs x)

-- one entry more
pub placed-next : {A : Type 0} (xs : List A) (k : ℕ) (x : A) → k < length xs → x ≡ get_or xs k x → placed (take (k + 1) xs) ≡ placed (take k xs) ++ (k, x) ∷ []
placed-next xs k x within is = grind (arith, common_steps, nat_tests, take_more, placed_push)

pub length-placed : {A : Type 0} (p : ℕ) (xs : List A) → length (placed_from p xs) ≡ length xs
length-placed p [] = refl
length-placed p (x ∷ xs) = ap suc (length-placed (suc p) xs)

-- the entries of a list, once they are sorted by their ids
pub run-sorted : {X A : Type 0} (f : X → ℕ × A) (id : A → ℕ) (list : List A) (first sorted : List X) → map f first ≡ placed list → length sorted ≡ length first
    → IsStableByKey (λ x. id (f x).1) nat_cmp first sorted → IsNonDecreasingBy (λ x. id (f x).1) sorted → IsRunOf id list (map f sorted)
run-sorted {X} {A} f id list first sorted kept long stable rises = record {
  len = cc (length-map sorted f, length-map first f, length-placed 0 list);
  rising = rising-map f id 0 sorted (λ k d l. omega arith) rises;
  same = λ i. under-map f id i sorted ∙ ap (map f) (same-by_key (λ x. id (f x).1) first sorted stable i) ∙ sym (under-map f id i first) ∙ ap (under id i) kept;
}
