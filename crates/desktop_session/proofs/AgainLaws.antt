-- Whether an id comes again is found place by place.
use Rattle.std.proofs.Common.{◌≡◌, ◌≢◌, ◌≤◌, ◌<◌, ◌%◌, ◌⊎◌, inl, inr, refl, sym, ◌∙◌, ℕ, zero, suc, Bool, true, false, ◌&&◌, ◌||◌, not, List, length, take, slice_index, eqb, leb, arith, subst}
use Rattle.std.proofs.Common.{leb-true, le-leb, eq-eqb, ne_eqb}
use Rattle.std.proofs.lemmas.Bool.Decides.{leb_tells}
use Rattle.palm_device.specs.FreshIds.{is_among}
use Rattle.desktop_session.specs.Asking.{comes_again, repeats}
use Rattle.desktop_session.specs.Starts.{AreNewFrom, ComesTwice}

-- ---- tests

neither : (a b c : Bool) → a ≡ false → (b ≡ true → c ≡ false) → (a || (b && c)) ≡ false
neither true b c first second = first
neither false true c first second = second refl
neither false false c first second = refl

first_of_two : (a b : Bool) → a ≡ true → (a || b) ≡ true
first_of_two true b is = refl
first_of_two false b is = absurd cc

second_of_two : (a b : Bool) → b ≡ true → (a || b) ≡ true
second_of_two true b is = refl
second_of_two false b is = is

both : (a b : Bool) → a ≡ true → b ≡ true → (a && b) ≡ true
both true b first second = second
both false b first second = first

asked : (parts again : Bool) → parts ≡ false → (not parts && again) ≡ again
asked true again is = absurd cc
asked false again is = refl

not_asked : (parts again : Bool) → parts ≡ true → (not parts && again) ≡ false
not_asked true again is = refl
not_asked false again is = absurd cc

not_again : (parts again : Bool) → again ≡ false → (not parts && again) ≡ false
not_again true again is = refl
not_again false again is = is

order_of : (at last : ℕ) → at < suc last → (at ≡ last) ⊎ (at < last)
order_of at last below = by (leb_tells last at)
  where
    by : ((leb last at ≡ true) × (last ≤ at)) ⊎ ((leb last at ≡ false) × (at < last)) → (at ≡ last) ⊎ (at < last)
    by (inl (test, past)) = inl (omega arith)
    by (inr (test, less)) = inr less

-- ---- one place after the other

again_none : (place : ℕ) (ids : List ℕ) (count : ℕ)
    → ((k : ℕ) → place ≤ k → k < count → is_among (slice_index ids k) (take k ids) ≡ false) → comes_again place ids count ≡ false
unfolding comes_again
again_none place ids zero new = refl
again_none place ids (suc last) new =
    neither (comes_again place ids last) (leb place last) (is_among (slice_index ids last) (take last ids))
    (again_none place ids last (λ k above below. new k above (omega arith))) (λ test. new last (leb-true place last test) (omega arith))

again_by : (place : ℕ) (ids : List ℕ) (last at : ℕ) → place ≤ at → is_among (slice_index ids at) (take at ids) ≡ true
    → (at < last → comes_again place ids last ≡ true) → (at ≡ last) ⊎ (at < last)
    → (comes_again place ids last || (leb place last && is_among (slice_index ids last) (take last ids))) ≡ true
again_by place ids last at above is before (inl same) =
    second_of_two (comes_again place ids last) _
    (both (leb place last) _ (le-leb place last (subst (λ (k : ℕ). place ≤ k) same above))
    (subst (λ (k : ℕ). is_among (slice_index ids k) (take k ids) ≡ true) same is))
again_by place ids last at above is before (inr less) = first_of_two (comes_again place ids last) _ (before less)

again_some : (place : ℕ) (ids : List ℕ) (count at : ℕ) → place ≤ at → at < count → is_among (slice_index ids at) (take at ids) ≡ true
    → comes_again place ids count ≡ true
unfolding comes_again
again_some place ids zero at above below is = absurd (omega arith)
again_some place ids (suc last) at above below is =
    again_by place ids last at above is (λ less. again_some place ids last at above less is) (order_of at last below)

-- ---- behind so many

pub repeats_parted : (before : ℕ) (ids : List ℕ) → before % 8000 ≡ 0 → false ≡ repeats before ids
repeats_parted before ids parts = sym (not_asked (eqb (before % 8000) 0) (comes_again before ids (length ids)) (eq-eqb (before % 8000) 0 parts))

pub repeats_twice : (before : ℕ) (ids : List ℕ) → before % 8000 ≢ 0 → ComesTwice before ids → true ≡ repeats before ids
repeats_twice before ids parts twice =
    sym (asked (eqb (before % 8000) 0) (comes_again before ids (length ids)) (ne_eqb (before % 8000) 0 parts)
    ∙ again_some before ids (length ids) twice.at twice.behind twice.within twice.again)

pub repeats_new : (before : ℕ) (ids : List ℕ) → AreNewFrom before ids → false ≡ repeats before ids
repeats_new before ids new = sym (not_again (eqb (before % 8000) 0) (comes_again before ids (length ids)) (again_none before ids (length ids) new))
