-- A list in rising ids is what stands under each id, in rising ids.
use Rattle.std.proofs.Common.{◌≡◌, ℕ, zero, suc, ◌<◌, ◌≤◌, List, [], ◌∷◌, ◌++◌, Option, None, Some, refl, ap, arith, inl, inr}
use Rattle.std.proofs.lemmas.Bool.{cases_lt}
use Rattle.std.proofs.lemmas.Bool.Decides.{nat_tests}
use Rattle.conduit_rules.specs.ById.{each_below, with_id, at}
use Rattle.conduit_rules.proofs.ByIdLaws.{each_below-same, each_below-suc, each_below-zero}
use Rattle.conduit_rules.proofs.PlanLaws.{IsRisingFrom, ids_of}
use Rattle.std.proofs.lemmas.Grind.{common_steps}

pub rising_end : (low end : ℕ) (is : List ℕ) → IsRisingFrom low is end → low ≤ end
rising_end low end [] rising = rising
rising_end low end (i ∷ is) rising = let l : suc i ≤ end = rising_end (suc i) end is rising.1 in omega (arith, rising.0)

-- what stands under an id that is below those of a list
at-below : {A : Type 0} (low end i : ℕ) (es : List (ℕ × A)) → IsRisingFrom low (ids_of es) end → i < low → at i es ≡ None
at-below low end i [] rising below = refl
at-below low end i (e ∷ es) rising below = grind (arith, common_steps, nat_tests, at-below (suc e.0) end i es rising.1 (omega (arith, rising.0)))

-- a list in rising ids up to n: what is below n, and what stands under n
record Split {A : Type 0} (low n : ℕ) (es : List (ℕ × A)) : Type 0 where
  front : List (ℕ × A)
  last : Option A
  is : es ≡ front ++ with_id n last
  rising : IsRisingFrom low (ids_of front) n
  same : (i : ℕ) → i < n → at i es ≡ at i front
  here : at n es ≡ last

split : {A : Type 0} (low n : ℕ) (es : List (ℕ × A)) → low ≤ n → IsRisingFrom low (ids_of es) (suc n) → Split low n es
split low n [] fits rising = record { front = []; last = None; is = refl; rising = fits; same = λ i below. refl; here = refl }
split {A = A} low n (e ∷ es) fits rising = elim (cases_lt e.0 n) [
  | inl below ↦
      let rest = split (suc e.0) n es below rising.1 in
      record {
        front = e ∷ rest.front;
        last = rest.last;
        is = cc;
        rising = (rising.0, rest.rising);
        same = λ i less. let same = rest.same i less in grind arith;
        here = let here = rest.here in grind (arith, nat_tests, below);
      }
  | inr over ↦
      let ended : suc e.0 ≤ suc n = rising_end (suc e.0) (suc n) (ids_of es) rising.1 in
      let is_n : e.0 ≡ n = omega (arith, over) in
      let none : es ≡ [] = nothing_left (suc e.0) n es (omega arith) rising.1 in
      record {
        front = [];
        last = Some e.1;
        is = rw (← is_n) (ap (λ (xs : List (ℕ × A)). e ∷ xs) none);
        rising = fits;
        same = λ i less. at-below e.0 (suc n) i (e ∷ es) ((omega arith), rising.1) (omega (arith, less));
        here = grind (arith, nat_tests);
      }
]
  where
    nothing_left : (from n : ℕ) (es : List (ℕ × A)) → suc n ≤ from → IsRisingFrom from (ids_of es) (suc n) → es ≡ []
    nothing_left from n [] past rising = refl
    nothing_left from n (x ∷ xs) past rising = let l : suc x.0 ≤ suc n = rising_end (suc x.0) (suc n) (ids_of xs) rising.1 in
        absurd (omega (arith, past, rising.0))

pub each_below-rising : {A : Type 0} (n : ℕ) (es : List (ℕ × A)) → IsRisingFrom 0 (ids_of es) n → each_below (λ i. with_id i (at i es)) n ≡ es
each_below-rising zero [] rising = each_below-zero (λ i. with_id i None)
each_below-rising zero (e ∷ es) rising = grind (arith, common_steps, nat_tests, rising_end, ids_of)
each_below-rising {A = A} (suc n) es rising =
    let parts = split 0 n es (omega arith) rising in
    cc (
      each_below-suc (λ i. with_id i (at i es)) n,
      each_below-same (λ i. with_id i (at i es)) (λ i. with_id i (at i parts.front)) n (λ i l. ap (with_id i)
          (parts.same i l)),
      each_below-rising n parts.front parts.rising,
    )
