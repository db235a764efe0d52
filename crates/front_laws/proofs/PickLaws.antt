-- The place of a handheld's slot: once a session has ended there, that place is found again, for the handheld as it was and as it is then.
use Rattle.std.proofs.lemmas.Bool.Decides.{nat_tests}
use Rattle.std.proofs.Common.{◌≡◌, ◌∙◌, ◌<◌, ◌≤◌, ap, refl, arith, ℕ, zero, suc, Bool, true, false, cond, List, [], ◌∷◌, ◌++◌}
use Rattle.std.proofs.Common.{length, get_or, set}
use Rattle.std.specs.Prelude.{◌≢◌, Option, Some, None, position, slice_get, nat_lt, if◌then◌else◌}
use Rattle.std.specs.Option.{option_map}
use Rattle.std.proofs.lemmas.List.{length-append}
use Rattle.pdb_values.specs.declared.user.Marks.{Marks}
use Rattle.pdb_values.proofs.PlaceLaws.{position-cons}

-- ---- the first place that passes

-- what is put at a place passes, and nothing before it does
pub position-set : {X : Type 0} (test : X → Bool) (xs : List X) (k : ℕ) (x d : X) → test x ≡ true → k < length xs
    → ((i : ℕ) → i < k → test (get_or xs i d) ≡ false) → position test (set xs k x) ≡ Some k
position-set test [] k x d is less before = absurd (omega (arith, less))
position-set test (y ∷ ys) zero x d is less before = grind (arith, position-cons test x ys)
position-set test (y ∷ ys) (suc k) x d is less before =
    position-cons test y (set ys k x) ∙ ap (λ b. cond b (Some 0) (option_map (λ place. suc place) (position test (set ys k x)))) (before 0 (omega arith))
    ∙ ap (λ (o : Option ℕ). option_map (λ place. suc place) o)
    (position-set test ys k x d is (omega (arith, less)) (λ i lt. before (suc i) (omega (arith, lt))))

-- none passes
pub position-never : {X : Type 0} (test : X → Bool) (xs : List X) (d : X) → ((i : ℕ) → i < length xs → test (get_or xs i d) ≡ false) → position test xs ≡ None
position-never test [] d none = refl
position-never test (x ∷ xs) d none =
    position-cons test x xs ∙ ap (λ b. cond b (Some 0) (option_map (λ place. suc place) (position test xs))) (none 0 (omega arith))
    ∙ ap (λ (o : Option ℕ). option_map (λ place. suc place) o) (position-never test xs d (λ i less. none (suc i) (omega (arith, less))))

-- nothing passes where nothing of the list does and the one that is put doesn't
pub position-set_none : {X : Type 0} (test : X → Bool) (xs : List X) (k : ℕ) (x d : X) → test x ≡ false
    → ((i : ℕ) → i < length xs → i ≢ k → test (get_or xs i d) ≡ false) → position test (set xs k x) ≡ None
position-set_none test [] k x d is none = refl
position-set_none test (y ∷ ys) zero x d is none =
    position-cons test x ys ∙ ap (λ b. cond b (Some 0) (option_map (λ place. suc place) (position test ys))) is
    ∙ ap (λ (o : Option ℕ). option_map (λ place. suc place) o)
    (position-never test ys d (λ i less. none (suc i) (omega (arith, less)) (λ same. omega (arith, same))))
position-set_none test (y ∷ ys) (suc k) x d is none =
    position-cons test y (set ys k x)
    ∙ ap (λ b. cond b (Some 0) (option_map (λ place. suc place) (position test (set ys k x)))) (none 0 (omega arith) (λ same. omega (arith, same)))
    ∙ ap (λ (o : Option ℕ). option_map (λ place. suc place) o)
    (position-set_none test ys k x d is (λ i less differ. none (suc i) (omega (arith, less)) (λ same. differ (omega (arith, same)))))

pub get-front : {X : Type 0} (xs ys : List X) (i : ℕ) (d : X) → i < length xs → get_or (xs ++ ys) i d ≡ get_or xs i d
get-front [] ys i d less = absurd (omega (arith, less))
get-front (x ∷ xs) ys zero d less = refl
get-front (x ∷ xs) ys (suc i) d less = get-front xs ys i d (omega (arith, less))

-- ---- what is put at a place

-- the slots once the one at a place is this; behind the last one a new one comes
abbrev pub placed : List Marks → ℕ → Marks → Marks → List Marks
placed marks place new done = set (if nat_lt place (length marks) then marks else marks ++ new ∷ []) place done

pub got-set : {X : Type 0} (xs : List X) (k : ℕ) (x : X) → k < length xs → slice_get (set xs k x) k ≡ Some x
got-set [] k x less = absurd (omega (arith, less))
got-set (y ∷ ys) zero x less = refl
got-set (y ∷ ys) (suc k) x less = got-set ys k x (omega (arith, less))

-- a place within the slots, or behind the last one
module _ (marks : List Marks) (place : ℕ) (new : Marks) (near : place ≤ length marks) where
  abbrev pub base : List Marks
  base = if nat_lt place (length marks) then marks else marks ++ new ∷ []

  pub base-there : place < length base
  base-there = by (nat_lt place (length marks)) refl
    where
      by : (b : Bool) → nat_lt place (length marks) ≡ b → place < length (if b then marks else marks ++ new ∷ [])
      by true is = grind (arith, nat_tests)
      by false is = omega (arith, near, length-append marks (new ∷ []))

  pub base-other : (i : ℕ) (d : Marks) → i < length base → i ≢ place → (i < length marks) × (get_or base i d ≡ get_or marks i d)
  base-other i d less differ = by (nat_lt place (length marks)) refl less
    where
      by : (b : Bool) → nat_lt place (length marks) ≡ b → i < length (if b then marks else marks ++ new ∷ [])
          → (i < length marks) × (get_or (if b then marks else marks ++ new ∷ []) i d ≡ get_or marks i d)
      by true is less = (less, refl)
      by false is less =
          let last : length marks ≤ place = grind (arith, nat_tests) in
          let inside : i < length marks = omega (arith, near, last, less, differ, length-append marks (new ∷ [])) in
          (inside, get-front marks (new ∷ []) i d inside)
