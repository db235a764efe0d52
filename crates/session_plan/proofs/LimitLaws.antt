-- Entries that are passed, and sums that stop at the greatest number.
use Rattle.std.proofs.Common.{◌≡◌, ◌∙◌, ◌<◌, ◌≤◌, ◌+◌, ◌-◌, ◌^◌, ap, refl, sym, ℕ, suc, Bool, true, false, List, [], ◌∷◌, length}
use Rattle.std.proofs.Common.{length-drop, drop, get_or, take, Option, Some, None, arith, inl, inr, ◌⊎◌, cond}
use Rattle.std.proofs.Math.Nat.{min-eq_left, min-eq_right}
use Rattle.std.proofs.Math.Seq.{drop-length}
use Rattle.std.proofs.lemmas.Bool.Decides.{nat_tests}
use Rattle.std.proofs.lemmas.Bool.{cases_lt}
use Rattle.std.proofs.lemmas.List.{drop_all, drop_more}
use Rattle.std.specs.Prelude.{if◌then◌else◌, is_none, is_some, min, nat_lt, not, position}
use Rattle.std.specs.List.{position_or_len}
use Rattle.session_plan.proofs.PlanWords.{ContentValue, ShelvesValue, Planned}
use Rattle.pdb_values.proofs.PlaceLaws.{place_found, place_past}
use Rattle.conduit_rules.specs.declared.view.Seen.{Seen}
use Rattle.session_plan.specs.Limits.{with_one}
use Rattle.session_plan.specs.PlannedLimits.{begins_with, entries_from, one_unless, over_planned, sizes_planned, unseen_count}
use Rattle.session_plan.specs.Sizes.{is_over}
use Rattle.desktop_session.proofs.GrowLaws.{take_whole}

-- ---- entries that are passed

abbrev is_from : ℕ → Seen → Bool
is_from id seen = not (nat_lt seen.id id)

from_place : (id : ℕ) (view : List Seen) → entries_from id view ≡ drop (position_or_len (is_from id) view) view
unfolding entries_from
from_place id [] = refl
from_place id (seen ∷ view) = by (nat_lt seen.id id) (from_place id view)
  where
    by : (b : Bool) → entries_from id view ≡ drop (position_or_len (is_from id) view) view
        → (if b then entries_from id view else seen ∷ view) ≡ drop (cond (not (not b)) (1 + position_or_len (is_from id) view) 0) (seen ∷ view)
    by true later = later
        ∙ ap (λ n. drop n (seen ∷ view)) (let more : suc (position_or_len (is_from id) view) ≡ 1 + position_or_len (is_from id) view = omega arith in more)
    by false later = refl

pub from_found : (id : ℕ) (view : List Seen) (place : ℕ) → position (λ (seen : Seen). not (nat_lt seen.id id)) view ≡ Some place
    → entries_from id view ≡ drop place view
from_found id view place found = from_place id view ∙ ap (λ n. drop n view) (place_found (is_from id) view place found)

pub from_none : (id : ℕ) (view : List Seen) → position (λ (seen : Seen). not (nat_lt seen.id id)) view ≡ None → entries_from id view ≡ []
from_none id view none = from_place id view ∙ ap (λ n. drop n view) (place_past (is_from id) view none) ∙ drop-length view

-- the entries from a place on, as a slice
pub from_slice : (id : ℕ) (view : List Seen) (place : ℕ) → position (λ (seen : Seen). not (nat_lt seen.id id)) view ≡ Some place
    → take (length view - place) (drop place view) ≡ entries_from id view
from_slice id view place found =
    let whole = length-drop place view in
    take_whole (drop place view) (length view - place) (omega (arith, whole)) ∙ sym (from_found id view place found)

-- ---- counts that stop at the greatest number

-- the same, or both more than a side takes
Alike : ℕ → ℕ → Type 0
Alike a b = (a ≡ b) ⊎ ((200 < a) × (200 < b))

more_alike : (a b : ℕ) → Alike a b → Alike (a + 1) (b + 1)
unfolding Alike
more_alike a b (inl same) = inl (ap (λ n. n + 1) same)
more_alike a b (inr both) = let first = both.0 in let second = both.1 in inr ((omega (arith, first)), (omega (arith, second)))

one_alike : {A : Type 0} (head : Option A) (a b : ℕ) → Alike a b → Alike (with_one head a) (with_one head b)
one_alike None a b alike = more_alike a b alike
one_alike (Some head) a b alike = alike

new_alike : {A : Type 0} (head : Option A) (a b : ℕ) → Alike a b
    → nat_lt 200 (if is_none head then a + 1 else 0) ≡ nat_lt 200 (if is_none head then b + 1 else 0)
unfolding Alike
new_alike (Some head) a b alike = refl
new_alike None a b (inl same) = ap (λ n. nat_lt 200 (n + 1)) same
new_alike None a b (inr both) =
    let first = both.0 in let second = both.1 in
    let one : nat_lt 200 (a + 1) ≡ true = grind (arith, nat_tests, first) in
    let two : nat_lt 200 (b + 1) ≡ true = grind (arith, nat_tests, second) in one ∙ sym two

over_alike : (shelves : ShelvesValue) (planned : List Planned) (a b c d : ℕ) → Alike a c → Alike b d
    → over_planned shelves a b planned ≡ over_planned shelves c d planned
unfolding over_planned
over_alike shelves [] a b c d first second = refl
over_alike shelves (one ∷ planned) a b c d first second =
    rw (
      new_alike one.job.handheld a c first,
      new_alike one.job.rows b d second,
      over_alike shelves planned a b c d first second,
      over_alike shelves planned (with_one one.job.handheld a) (with_one one.job.rows b) (with_one one.job.handheld c) (with_one one.job.rows d)
          (one_alike one.job.handheld a c first) (one_alike one.job.rows b d second),
    )

capped_alike : (n : ℕ) → Alike (min n (2 ^ 64 - 1)) n
unfolding Alike
capped_alike n = elim (cases_lt n (2 ^ 64 - 1)) [
  | inl less ↦ inl (min-eq_left (let l : n ≤ 2 ^ 64 - 1 = omega arith in l))
  | inr most ↦ inr ((let e : min n (2 ^ 64 - 1) ≡ 2 ^ 64 - 1 = min-eq_right most in omega (arith, e)), (omega (arith, most)))
]

pub over_first : (shelves : ShelvesValue) (planned : List Planned) (a b n : ℕ) → n ≡ min b (2 ^ 64 - 1)
    → over_planned shelves a n planned ≡ over_planned shelves a b planned
unfolding Alike
over_first shelves planned a b n is =
    ap (λ m. over_planned shelves a m planned) is ∙ over_alike shelves planned a _ a b (inl refl) (capped_alike b)

-- so counts of databases may stop at the greatest number
pub over_capped : (shelves : ShelvesValue) (planned : List Planned) (a b : ℕ)
    → over_planned shelves (min a (2 ^ 64 - 1)) (min b (2 ^ 64 - 1)) planned ≡ over_planned shelves a b planned
over_capped shelves planned a b = over_alike shelves planned _ _ a b (capped_alike a) (capped_alike b)

-- ---- one after another

drop_at : {A : Type 0} (xs : List A) (k : ℕ) (x : A) → k < length xs → x ≡ get_or xs k x → drop k xs ≡ x ∷ drop (k + 1) xs
drop_at xs k x below is = drop_more xs k x below ∙ ap (λ y. y ∷ drop (k + 1) xs) (sym is)

pub unseen_more : (b : Bool) (rows : List (ℕ × ContentValue)) (k : ℕ) (row : ℕ × ContentValue) (view ahead : List Seen) (count new all : ℕ) → k < length rows
    → row ≡ get_or rows k row → ahead ≡ entries_from row.0 view → begins_with row.0 ahead ≡ b → new ≡ count + one_unless b
    → count + unseen_count view (drop k rows) ≡ all → new + unseen_count ahead (drop (k + 1) rows) ≡ all
unfolding unseen_count
unseen_more b rows k row view ahead count new all below is passed begins more before =
    let on : unseen_count view (drop k rows) ≡ one_unless b + unseen_count ahead (drop (k + 1) rows)
    = ap (unseen_count view) (drop_at rows k row below is) ∙ rw (← passed, begins) in
    omega (arith, on, more, before)

pub unseen_end : (rows : List (ℕ × ContentValue)) (k : ℕ) (view : List Seen) → length rows ≤ k → unseen_count view (drop k rows) ≡ 0
unfolding unseen_count
unseen_end rows k view past = ap (unseen_count view) (drop_all k rows past)

not_skipped : {A : Type 0} (o : Option A) → is_none o ≡ true → is_some o ≡ false
not_skipped None none = refl
not_skipped (Some a) none = absurd cc

skipped : {A : Type 0} (o : Option A) → is_none o ≡ false → is_some o ≡ true
skipped None some = absurd cc
skipped (Some a) some = refl

module _ (shelves : ShelvesValue) (planned : List Planned) (k : ℕ) (one : Planned) (a b : ℕ) (below : k < length planned)
    (is : one ≡ get_or planned k one) where
  over_on : over_planned shelves a b (drop k planned)
      ≡ (if is_some one.job.skip then over_planned shelves a b (drop (k + 1) planned)
      else (if is_over (sizes_planned shelves a b one) then Some one.job.name
      else over_planned shelves (with_one one.job.handheld a) (with_one one.job.rows b) (drop (k + 1) planned)))
  unfolding over_planned
  over_on = ap (over_planned shelves a b) (drop_at planned k one below is)

  -- one that is not skipped passes a limit
  pub over_now : is_none one.job.skip ≡ true → is_over (sizes_planned shelves a b one) ≡ true
      → over_planned shelves a b (drop k planned) ≡ Some one.job.name
  over_now active over = rw (over_on, not_skipped one.job.skip active, over)

  -- or passes none
  pub over_next : {more others : ℕ} → is_none one.job.skip ≡ true → is_over (sizes_planned shelves a b one) ≡ false
      → more ≡ min (with_one one.job.handheld a) (2 ^ 64 - 1) → others ≡ min (with_one one.job.rows b) (2 ^ 64 - 1)
      → over_planned shelves more others (drop (k + 1) planned) ≡ over_planned shelves a b (drop k planned)
  over_next active over first second =
      rw (first, second, over_on, not_skipped one.job.skip active, over)
      (over_capped shelves (drop (k + 1) planned) (with_one one.job.handheld a) (with_one one.job.rows b))

  -- one that is skipped is passed
  pub over_past : {more others : ℕ} → is_none one.job.skip ≡ false → more ≡ a → others ≡ b
      → over_planned shelves more others (drop (k + 1) planned) ≡ over_planned shelves a b (drop k planned)
  over_past skip first second = rw (first, second, over_on, skipped one.job.skip skip)

pub over_end : (shelves : ShelvesValue) (planned : List Planned) (k a b : ℕ) → length planned ≤ k → over_planned shelves a b (drop k planned) ≡ None
unfolding over_planned
over_end shelves planned k a b past = ap (over_planned shelves a b) (drop_all k planned past)

-- ---- how many there are
