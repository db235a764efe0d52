-- The number of an entry that is looked for.
use Rattle.std.proofs.Common.{arith, ◌≡◌, ◌∙◌, ap, refl, ℕ, zero, suc, ◌<◌, ◌≤◌, Bool, true, false, cond, List, [], ◌∷◌}
use Rattle.std.proofs.Common.{Option, None, Some, get_or, length, nat_lt}
use Rattle.std.proofs.lemmas.Bool.Decides.{nat_tests}
use Rattle.std.proofs.lemmas.List.Sums.{fails_before_first, position_or_len_is}
use Rattle.std.proofs.lemmas.List.Quantifiers.{position-Some}
use Rattle.std.specs.List.{position, position_or_len}
use Rattle.std.specs.Option.{option_map}
use Rattle.category_tables.specs.Tables.{CategoryValue, entry_at, no_entry}
use Rattle.category_tables.specs.Merges.{number_where}

-- the first one that passes is found
pub position_is : {X : Type 0} (p : X → Bool) (xs : List X) (i : ℕ) (d : X) → i < length xs → p (get_or xs i d) ≡ true
    → ((k : ℕ) → k < i → p (get_or xs k d) ≡ false) → position p xs ≡ Some i
position_is p xs i d within passes before =
    let at = position_or_len_is p xs i d (omega arith) before (λ _. passes) in
    let less : nat_lt i (length xs) ≡ true = grind (arith, nat_tests) in
    ap (λ n. cond (nat_lt n (length xs)) (Some n) None) at ∙ rw less refl

-- where none is found, none passes
pub position_none : {X : Type 0} (p : X → Bool) (xs : List X) (d : X) → position p xs ≡ None
    → (k : ℕ) → k < length xs → p (get_or xs k d) ≡ false
position_none p xs d none k less =
    let far : length xs ≤ position_or_len p xs = grind (arith, nat_tests, none) in
    fails_before_first p xs k d (omega arith)

-- the same from number 1 on
pub number_is : (p : CategoryValue → Bool) (entries : List CategoryValue) (j : ℕ) → 1 ≤ j → j < length entries → p (entry_at entries j) ≡ true
    → ((k : ℕ) → 1 ≤ k → k < j → p (entry_at entries k) ≡ false) → number_where p entries ≡ Some j
unfolding number_where
number_is p [] j some less passes before = absurd (omega arith)
number_is p (entry ∷ entries) zero some less passes before = absurd (omega arith)
number_is p (entry ∷ entries) (suc j) some less passes before =
    ap (option_map suc) (position_is p entries j no_entry (omega arith) passes (λ k below. before (suc k) (omega arith) (omega arith)))

-- what a number that was found says
pub record IsNumber (p : CategoryValue → Bool) (entries : List CategoryValue) (j : ℕ) : Type 0 where
  pub some : 1 ≤ j
  pub less : j < length entries
  pub passes : p (entry_at entries j) ≡ true
  pub before : (k : ℕ) → 1 ≤ k → k < j → p (entry_at entries k) ≡ false

shifted : (found : Option ℕ) (j : ℕ) → option_map suc found ≡ Some (suc j) → found ≡ Some j
shifted None j e = absurd cc
shifted (Some i) j e = grind arith

not_zero : (found : Option ℕ) → option_map suc found ≡ Some 0 → ⊥
not_zero None e = cc
not_zero (Some i) e = grind arith

pub number_found : (p : CategoryValue → Bool) (entries : List CategoryValue) (j : ℕ) → number_where p entries ≡ Some j → IsNumber p entries j
unfolding number_where
number_found p [] j e = absurd cc
number_found p (entry ∷ entries) zero e = absurd (not_zero (position p entries) e)
number_found p (entry ∷ entries) (suc j) e =
    let is = position-Some p entries j no_entry (shifted (position p entries) j e) in
    record { some = omega arith; less = omega (arith, is.0); passes = is.1; before = early is.2 }
  where
    early : ((k : ℕ) → k < j → p (get_or entries k no_entry) ≡ false) → (k : ℕ) → 1 ≤ k → k < suc j → p (entry_at (entry ∷ entries) k) ≡ false
    early each zero some below = absurd (omega arith)
    early each (suc k) some below = each k (omega arith)

nowhere : (found : Option ℕ) → option_map suc found ≡ None → found ≡ None
nowhere None e = refl
nowhere (Some i) e = absurd cc

pub number_none : (p : CategoryValue → Bool) (entries : List CategoryValue) → number_where p entries ≡ None
    → (k : ℕ) → 1 ≤ k → k < length entries → p (entry_at entries k) ≡ false
unfolding number_where
number_none p [] e k some less = absurd (omega arith)
number_none p (entry ∷ entries) e zero some less = absurd (omega arith)
number_none p (entry ∷ entries) e (suc k) some less = position_none p entries no_entry (nowhere (position p entries) e) k (omega arith)
