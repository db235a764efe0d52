-- A new number is nobody's, and within its bounds.
use Rattle.std.proofs.lemmas.Bool.Decides.{nat_tests}
use Rattle.std.proofs.lemmas.Nat.{mod_below}
use Rattle.std.proofs.Common.{◌≡◌, ◌∙◌, ◌<◌, ◌≤◌, ◌+◌, ◌*◌, refl, sym, ap, subst, ℕ, zero, suc, Bool, true, false, List, [], ◌∷◌, length, arith}
use Rattle.std.specs.Prelude.{◌≢◌, ◌==◌, ◌||◌, ◌^◌, if◌then◌else◌}
use Rattle.std.specs.List.{list_any}
use Rattle.pdb_values.specs.declared.user.Marks.{Marks}
use Rattle.desktop_session.specs.Seats.{numbers_of}
use Rattle.session_plan.specs.Numbers.{first_number, free_from, is_taken, mix, mixed, new_number}

-- the numbers of slots
pub taken_slots : (marks : List Marks) (number : ℕ) → list_any (λ (slot : Marks). slot.user == number) marks ≡ is_taken (numbers_of marks) number
taken_slots [] number = refl
taken_slots (slot ∷ marks) number = ap (λ b. (slot.user == number) || b) (taken_slots marks number)

-- where the handheld's is another one
pub taken_others : (marks : List Marks) (user number : ℕ) → user ≢ number
    → list_any (λ (slot : Marks). slot.user == number) marks ≡ is_taken (user ∷ numbers_of marks) number
taken_others marks user number differ =
    let other : (user == number) ≡ false = grind (arith, nat_tests) in
    taken_slots marks number ∙ ap (λ b. b || is_taken (numbers_of marks) number) (sym other)

-- ---- as many numbers are taken as are found to be

-- without the first one that is this
drop_one : ℕ → List ℕ → List ℕ
drop_one c [] = []
drop_one c (x ∷ xs) = if x == c then xs else x ∷ drop_one c xs

shorter : (c : ℕ) (xs : List ℕ) → is_taken xs c ≡ true → length xs ≡ suc (length (drop_one c xs))
unfolding drop_one
shorter c [] is = absurd (let no : true ≡ false = sym is in cc)
shorter c (x ∷ xs) is = by (shorter c xs) (x == c) refl
  where
    by : (is_taken xs c ≡ true → length xs ≡ suc (length (drop_one c xs))) → (b : Bool) → (x == c) ≡ b
        → suc (length xs) ≡ suc (length (if b then xs else x ∷ drop_one c xs))
    by rest true same = refl
    by rest false other = ap suc (rest (sym (ap (λ b. b || is_taken xs c) other) ∙ is))

still : (c d : ℕ) (xs : List ℕ) → (d == c) ≡ false → is_taken xs d ≡ true → is_taken (drop_one c xs) d ≡ true
unfolding drop_one
still c d [] differ is = is
still c d (x ∷ xs) differ is = by (still c d xs differ) (x == c) refl (x == d) refl
  where
    by : (is_taken xs d ≡ true → is_taken (drop_one c xs) d ≡ true) → (b : Bool) → (x == c) ≡ b → (e : Bool) → (x == d) ≡ e
        → is_taken (if b then xs else x ∷ drop_one c xs) d ≡ true
    by rest true same true own = absurd (let no : (d == c) ≡ true = grind (arith, nat_tests, same, own) in let never : true ≡ false = sym no ∙ differ in cc)
    by rest true same false own = sym (ap (λ b. b || is_taken xs d) own) ∙ is
    by rest false other true own = ap (λ b. b || is_taken (drop_one c xs) d) own
    by rest false other false own =
        ap (λ b. b || is_taken (drop_one c xs) d) own ∙ rest (sym (ap (λ b. b || is_taken xs d) own) ∙ is)

apart : (c i : ℕ) → ((c + 1 + i) == c) ≡ false
apart c i = grind (arith, nat_tests)

pub as_many : (n c : ℕ) (xs : List ℕ) → ((i : ℕ) → i < n → is_taken xs (c + i) ≡ true) → n ≤ length xs
as_many zero c xs all = omega arith
as_many (suc n) c xs all =
    let here : is_taken xs c ≡ true = subst (λ k. is_taken xs k ≡ true) (let e : c + 0 ≡ c = omega arith in e) (all 0 (omega arith)) in
    let rest = as_many n (c + 1) (drop_one c xs) (λ i less. still c (c + 1 + i) xs (apart c i)
    (subst (λ k. is_taken xs k ≡ true) (let e : c + suc i ≡ c + 1 + i = omega arith in e) (all (suc i) (omega (arith, less))))) in
    omega (arith, rest, shorter c xs here)

-- ---- the first that nobody has

-- where it is taken, so is each that was tried
all_taken : (tries c : ℕ) (xs : List ℕ) → is_taken xs (free_from tries c xs) ≡ true → (i : ℕ) → i < suc tries → is_taken xs (c + i) ≡ true
unfolding free_from
all_taken zero c xs is i less = subst (λ k. is_taken xs k ≡ true) (let e : c ≡ c + i = omega (arith, less) in e) is
all_taken (suc tries) c xs is i less = by (all_taken tries (c + 1) xs) (is_taken xs c) refl is i less
  where
    by : (is_taken xs (free_from tries (c + 1) xs) ≡ true → (i : ℕ) → i < suc tries → is_taken xs (c + 1 + i) ≡ true) → (b : Bool) → is_taken xs c ≡ b → is_taken xs (if b then free_from tries (c + 1) xs else c) ≡ true → (i : ℕ) → i < suc (suc tries)
        → is_taken xs (c + i) ≡ true
    by rest true here is zero less = subst (λ k. is_taken xs k ≡ true) (let e : c ≡ c + 0 = omega arith in e) here
    by rest true here is (suc i) less =
        subst (λ k. is_taken xs k ≡ true) (let e : c + 1 + i ≡ c + suc i = omega arith in e) (rest is i (omega (arith, less)))
    by rest false none is i less = absurd (let never : true ≡ false = sym is ∙ none in cc)

pub free-here : (tries c : ℕ) (xs : List ℕ) → is_taken xs c ≡ false → free_from tries c xs ≡ c
unfolding free_from
free-here zero c xs none = refl
free-here (suc tries) c xs none = ap (λ b. if b then free_from tries (c + 1) xs else c) none

pub free-next : (tries c : ℕ) (xs : List ℕ) → is_taken xs c ≡ true → free_from (suc tries) c xs ≡ free_from tries (c + 1) xs
unfolding free_from
free-next tries c xs here = ap (λ b. if b then free_from tries (c + 1) xs else c) here

pub free-last : (tries c : ℕ) (xs : List ℕ) → tries ≡ 0 → free_from tries c xs ≡ c
unfolding free_from
free-last zero c xs none = refl
free-last (suc tries) c xs none = absurd (omega (arith, none))

pub is_free : (tries c : ℕ) (xs : List ℕ) → length xs ≤ tries → is_taken xs (free_from tries c xs) ≡ false
is_free tries c xs few = by (is_taken xs (free_from tries c xs)) refl
  where
    by : (b : Bool) → is_taken xs (free_from tries c xs) ≡ b → b ≡ false
    by true is = absurd (omega (arith, few, as_many (suc tries) c xs (all_taken tries c xs is)))
    by false is = refl

pub from_on : (tries c : ℕ) (xs : List ℕ) → (c ≤ free_from tries c xs) × (free_from tries c xs ≤ c + tries)
unfolding free_from
from_on zero c xs = (omega arith, omega arith)
from_on (suc tries) c xs = by (from_on tries (c + 1) xs) (is_taken xs c)
  where
    by : (c + 1 ≤ free_from tries (c + 1) xs) × (free_from tries (c + 1) xs ≤ c + 1 + tries) → (b : Bool)
        → (c ≤ (if b then free_from tries (c + 1) xs else c)) × ((if b then free_from tries (c + 1) xs else c) ≤ c + suc tries)
    by rest true = (omega (arith, rest), omega (arith, rest))
    by rest false = (omega arith, omega arith)

-- ---- a new number

pub mixed-below : (seed : ℕ) (xs : List ℕ) → seed < 2147483648 → mixed seed xs < 2147483648
mixed-below seed [] below = below
mixed-below seed (x ∷ xs) below = mixed-below (mix seed x) xs (mod_below (seed * 16777619 + x) 2147483648 (omega arith))

pub number_is_free : (date : ℕ) (name : List ℕ) (old : ℕ) (taken : List ℕ) → length taken ≤ 17 → is_taken taken (new_number date name old taken) ≡ false
number_is_free date name old taken few = is_free 17 (first_number date name old) taken few

pub number_is_some : (date : ℕ) (name : List ℕ) (old : ℕ) (taken : List ℕ) → new_number date name old taken ≢ 0
number_is_some date name old taken none = omega (arith, none, from_on 17 (first_number date name old) taken)

pub number_is_below : (date : ℕ) (name : List ℕ) (old : ℕ) (taken : List ℕ) → new_number date name old taken < 2 ^ 32
number_is_below date name old taken =
    omega (arith, from_on 17 (first_number date name old) taken, mixed-below 0 (date ∷ old ∷ name) (omega arith))
