-- The first of the contents in rising ids, taken out.
use Rattle.std.proofs.Common.{◌≡◌, ℕ, zero, suc, ◌<◌, List, [], ◌∷◌, ◌++◌, refl, ap, ◌∙◌, sym, arith, Option, Some, None, append-nil}
use Rattle.std.proofs.lemmas.Bool.Decides.{nat_tests}
use Rattle.pdb_values.specs.Contents.{ContentValue}
use Rattle.conduit_rules.specs.ById.{each_below, with_id, put}
use Rattle.conduit_rules.proofs.ByIdLaws.{each_below-zero, each_below-suc, each_below-same}

-- the contents that a function gives, with their ids
abbrev pub with_ids : (ℕ → Option ContentValue) → ℕ → List (ℕ × ContentValue)
with_ids f n = each_below (λ i. with_id i (f i)) n

put_below : (f : ℕ → Option ContentValue) (n i : ℕ) → i < n → put f n None i ≡ f i
put_below f n i l = grind (arith, nat_tests, l)

put_beside : (f : ℕ → Option ContentValue) (j n : ℕ) → j < n → put f j None n ≡ f n
put_beside f j n l = grind (arith, nat_tests, l)

put_there : (f : ℕ → Option ContentValue) (n : ℕ) → put f n None n ≡ None
put_there f n = grind (arith, nat_tests)

pub with_ids-suc : (f : ℕ → Option ContentValue) (n : ℕ) → with_ids f (suc n) ≡ with_ids f n ++ with_id n (f n)
with_ids-suc f n = each_below-suc (λ i. with_id i (f i)) n

last-out : (f : ℕ → Option ContentValue) (n : ℕ) → with_ids f n ≡ [] → with_ids (put f n None) (suc n) ≡ []
last-out f n none =
    with_ids-suc (put f n None) n
    ∙ ap (λ o. with_ids (put f n None) n ++ with_id n o) (put_there f n)
    ∙ append-nil _
    ∙ each_below-same (λ i. with_id i (put f n None i)) (λ i. with_id i (f i)) n (λ i l. ap (with_id i) (put_below f n i l))
    ∙ none

head-is : {x : ℕ × ContentValue} (e : ℕ × ContentValue) {xs rest : List (ℕ × ContentValue)} → x ∷ xs ≡ e ∷ rest → (x ≡ e) × (xs ≡ rest)
head-is {x} e {xs} {rest} is = (let h : x ≡ e = cc in h, let t : xs ≡ rest = cc in t)

-- without its first content
pub first-out : (f : ℕ → Option ContentValue) {e : ℕ × ContentValue} {rest : List (ℕ × ContentValue)} (n : ℕ) → with_ids f n ≡ e ∷ rest
    → (e.0 < n) × (with_ids (put f e.0 None) n ≡ rest)
first-out f {e} {rest} zero is = absurd (let no : [] ≡ e ∷ rest = sym (each_below-zero (λ i. with_id i (f i))) ∙ is in cc)
first-out f {e} {rest} (suc n) is = by (with_ids f n) (f n) refl refl (sym (with_ids-suc f n) ∙ is) (λ x xs i. first-out f n i)
  where
    by : (xs : List (ℕ × ContentValue)) (o : Option ContentValue) → with_ids f n ≡ xs → f n ≡ o → xs ++ with_id n o ≡ e ∷ rest
        → ((x : ℕ × ContentValue) (xs : List (ℕ × ContentValue)) → with_ids f n ≡ x ∷ xs → (x.0 < n) × (with_ids (put f x.0 None) n ≡ xs))
        → (e.0 < suc n) × (with_ids (put f e.0 None) (suc n) ≡ rest)
    by [] None below last is ih = absurd (cc)
    by [] (Some a) below last is ih =
        let both = head-is e is in
        let id : n ≡ e.0 = ap (λ (p : ℕ × ContentValue). p.0) both.0 in
        (omega (arith, id), ap (λ j. with_ids (put f j None) (suc n)) (sym id) ∙ last-out f n below ∙ both.1)
    by (x ∷ xs) o below last is ih =
        let both = head-is e is in
        let id : x.0 ≡ e.0 = ap (λ (p : ℕ × ContentValue). p.0) both.0 in
        let before = ih x xs below in
        let l = before.0 in (
          omega (arith, id, l),
          ap (λ j. with_ids (put f j None) (suc n)) (sym id)
              ∙ with_ids-suc (put f x.0 None) n
              ∙ ap {A = List (ℕ × ContentValue) × Option ContentValue} (λ p. p.0 ++ with_id n p.1) (λ k. (before.1 k, (put_beside f x.0 n l ∙ last) k))
              ∙ both.1,
        )
