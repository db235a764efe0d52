-- A list in rising ids: what is in front, what is behind it, and what is left once the front is passed.
use Rattle.std.proofs.Common.{◌≡◌, ◌⊎◌, ⊎_elim, inl, inr, ℕ, suc, ◌≤◌, ◌<◌, ◌==◌, List, [], ◌∷◌, refl, ap, arith, Option, Some, None, Bool, true}
use Rattle.std.proofs.Common.{false, is_some, drop, if◌then◌else◌, rules}
use Rattle.std.specs.List.{find, AllByRecursion}
use Rattle.std.specs.Option.{option_map}
use Rattle.std.proofs.lemmas.Grind.{common_steps}
use Rattle.std.proofs.lemmas.Bool.Decides.{nat_tests}
use Rattle.conduit_rules.specs.Runs.{placed_from, placed, under, IsRising, IsRunOf, front_under, IsFrom}

-- the first of a list, without its place
abbrev pub first_of : {A : Type 0} → List (ℕ × A) → Option A
first_of [] = None
first_of (e ∷ es) = Some e.1

-- the first of an id in a list
pub find-under : {A : Type 0} (id : A → ℕ) (i p : ℕ) (xs : List A) → find (λ x. id x == i) xs ≡ first_of (under id i (placed_from p xs))
find-under id i p [] = refl
find-under {A} id i p (x ∷ xs) = grind (arith, common_steps, nat_tests, find-under id i (suc p) xs)

pub rising-lower : {A : Type 0} (id : A → ℕ) (low high : ℕ) (es : List (ℕ × A)) → low ≤ high → IsRising id high es → IsRising id low es
rising-lower id low high [] below rising = tt
rising-lower id low high (e ∷ es) below rising = (omega (arith, rising.0), rising.1)

-- nothing is under an id below those of a list
pub under-below : {A : Type 0} (id : A → ℕ) (i low : ℕ) (es : List (ℕ × A)) → IsRising id low es → i < low → under id i es ≡ []
under-below id i low [] rising below = refl
under-below id i low (e ∷ es) rising below = grind (arith, common_steps, nat_tests, under-below id i (id e.1) es rising.1 (omega (arith, rising.0)))

-- an id below that of the entry in front
pub under-before : {A : Type 0} (id : A → ℕ) (i j low : ℕ) (es : List (ℕ × A)) → IsRising id low es → IsFrom id i es → j < i → under id j es ≡ []
under-before id i j low es rising from before = grind (arith, common_steps, nat_tests, under-below)

-- the first of the least id is in front, if there is one
pub first-front : {A : Type 0} (id : A → ℕ) (i low : ℕ) (es : List (ℕ × A)) → IsRising id low es → IsFrom id i es
    → first_of (under id i es) ≡ option_map (λ (e : ℕ × A). e.1) (front_under id i es)
first-front id i low es rising from = grind (arith, common_steps, nat_tests, under-below)

-- what is left once an entry in front that bears this id is passed
abbrev pub behind_front : {A : Type 0} → (A → ℕ) → ℕ → List (ℕ × A) → List (ℕ × A)
behind_front id i [] = []
behind_front id i (e ∷ es) = if id e.1 == i then es else e ∷ es

pub drop-front : {A : Type 0} (id : A → ℕ) (i : ℕ) (es : List (ℕ × A)) (b : Bool) → b ≡ is_some (front_under id i es)
    → drop (if b then 1 else 0) es ≡ behind_front id i es
drop-front id i es b is = grind (arith, common_steps, nat_tests)

pub rising-behind : {A : Type 0} (id : A → ℕ) (i : ℕ) (es : List (ℕ × A)) → IsRising id 0 es → IsRising id 0 (behind_front id i es)
rising-behind id i es rising = search (rules, rising-lower)

-- another id loses nothing
pub under-behind : {A : Type 0} (id : A → ℕ) (i j : ℕ) (es : List (ℕ × A)) → (i == j) ≡ false → under id j (behind_front id i es) ≡ under id j es
under-behind id i j es other = grind (arith, common_steps, nat_tests)

-- a property of each entry, by ids
pub each-by_id : {A : Type 0} (id : A → ℕ) (P : ℕ × A → Type 0) (es : List (ℕ × A)) → ((i : ℕ) → AllByRecursion P (under id i es)) → AllByRecursion P es
each-by_id id P [] all = tt
each-by_id {A} id P (e ∷ es) all = (
  here (id e.1 == id e.1) (grind (arith, nat_tests)) (all (id e.1)),
  each-by_id id P es
      (λ i. later (id e.1 == i) (under id i es) (all i)),
)
  where
    here : (b : Bool) → b ≡ true → AllByRecursion P (if b then e ∷ under id (id e.1) es else under id (id e.1) es) → P e
    here true is each = each.0
    here false is each = cc

    later : (b : Bool) (rest : List (ℕ × A)) → AllByRecursion P (if b then e ∷ rest else rest) → AllByRecursion P rest
    later true rest each = each.1
    later false rest each = each

pub each-under : {A : Type 0} (id : A → ℕ) (P : ℕ × A → Type 0) (i : ℕ) (es : List (ℕ × A)) → AllByRecursion P es → AllByRecursion P (under id i es)
each-under id P i [] all = tt
each-under {A} id P i (e ∷ es) all = by (id e.1 == i) (each-under id P i es all.1)
  where
    by : (b : Bool) → AllByRecursion P (under id i es) → AllByRecursion P (if b then e ∷ under id i es else under id i es)
    by true rest = (all.0, rest)
    by false rest = rest

-- an entry stands in a list
abbrev pub IsAmong : {A : Type 0} → ℕ × A → List (ℕ × A) → Type 0
IsAmong e [] = ⊥
IsAmong e (x ∷ xs) = (x ≡ e) ⊎ IsAmong e xs

pub among-under : {A : Type 0} (id : A → ℕ) (e : ℕ × A) (es : List (ℕ × A)) → IsAmong e es → IsAmong e (under id (id e.1) es)
among-under id e [] is = absurd is
among-under {A} id e (x ∷ es) is = ⊎_elim (λ (here : x ≡ e). first here) (λ (there : IsAmong e es). more (id x.1 == id e.1) (among-under id e es there)) is
  where
    put_first : (b : Bool) → b ≡ true → x ≡ e → IsAmong e (if b then x ∷ under id (id e.1) es else under id (id e.1) es)
    put_first true is here = inl here
    put_first false is here = cc

    first : x ≡ e → IsAmong e (under id (id e.1) (x ∷ es))
    first here = put_first (id x.1 == id e.1) (grind (arith, nat_tests, ap (λ (y : ℕ × A). id y.1) here)) here

    more : (b : Bool) → IsAmong e (under id (id e.1) es) → IsAmong e (if b then x ∷ under id (id e.1) es else under id (id e.1) es)
    more true there = inr there
    more false there = there

pub under-among : {A : Type 0} (id : A → ℕ) (i : ℕ) (e : ℕ × A) (es : List (ℕ × A)) → IsAmong e (under id i es) → IsAmong e es
under-among id i e [] is = is
under-among {A} id i e (x ∷ es) is = by (id x.1 == i) is (under-among id i e es)
  where
    by : (b : Bool) → IsAmong e (if b then x ∷ under id i es else under id i es) → (IsAmong e (under id i es) → IsAmong e es) → IsAmong e (x ∷ es)
    by true there rest = ⊎_elim (λ (here : x ≡ e). inl here) (λ (later : IsAmong e (under id i es)). inr (rest later)) there
    by false there rest = inr (rest there)

-- each entry of a list stands in its run
pub run-has : {A : Type 0} (id : A → ℕ) (list : List A) (run : List (ℕ × A)) (e : ℕ × A) → IsRunOf id list run → IsAmong e (placed list) → IsAmong e run
run-has id list run e is there = under-among id (id e.1) e run (rw (is.same (id e.1)) (among-under id e (placed list) there))

-- and each entry of a run stands in its list
pub run-each : {A : Type 0} (id : A → ℕ) (P : ℕ × A → Type 0) (list : List A) (run : List (ℕ × A)) → IsRunOf id list run → AllByRecursion P (placed list)
    → AllByRecursion P run
run-each id P list run is all = each-by_id id P run (λ i. rw (is.same i) (each-under id P i (placed list) all))

pub each-behind : {A : Type 0} (id : A → ℕ) (P : ℕ × A → Type 0) (i : ℕ) (es : List (ℕ × A)) → AllByRecursion P es → AllByRecursion P (behind_front id i es)
each-behind id P i es all = search (rules)

-- what was ahead is still ahead, or was in front
pub among-behind : {A : Type 0} (id : A → ℕ) (i : ℕ) (e : ℕ × A) (es : List (ℕ × A)) → IsAmong e es
    → (front_under id i es ≡ Some e) ⊎ IsAmong e (behind_front id i es)
among-behind id i e es is = grind (arith, common_steps, nat_tests)
