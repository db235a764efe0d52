-- The data frames that came: where each stands, and when it has reached what is sent.
use Rattle.std.proofs.Common.{◌≡◌, ◌⊎◌, ℕ, ◌+◌, ◌-◌, ◌<◌, ◌≤◌, Bool, true, ◌&&◌, List, [], ◌∷◌, length, drop, map, refl, sym, ap, subst, ◌∙◌, arith, inl, inr}
use Rattle.std.specs.List.{AllByRecursion}
use Rattle.std.proofs.lemmas.Bool.{cond-true, cond-false, cases_Bool, cases_lt, and_parts}
use Rattle.trace_text.specs.declared.frame.End.{End}
use Rattle.trace_text.specs.Faults.{late_of, newest, IsHeldIn}
use Rattle.trace_text.specs.Past.{PastFrame, is_end, is_data_of, at}
use Rattle.trace_text.specs.Proper.{Reaches, data_that_came}
use Rattle.line_laws.proofs.CameLaws.{same_end}
use Rattle.line_laws.proofs.FaultLaws.{newest_inside, newest_from, at_top}
use Rattle.line_laws.proofs.PastLaws.{at_push, at_at, length-at}
use Rattle.trace_check.specs.Acking.{numbered_value, data_came, HasReached, IsRepeats}
use Rattle.trace_check.specs.declared.came.DataCame.{DataCame}
use Rattle.trace_check.specs.declared.repeats.Repeats.{Repeats}

-- ---- where they stand

-- the data frame stands in the past under its number, and came
pub record StandsIn (X : End) (came : ℕ → Bool) (past : List PastFrame) (data_frame : DataCame) : Type 0 where
  pub frame : PastFrame
  pub older : List PastFrame
  pub some : 0 < data_frame.number
  pub inside : data_frame.number ≤ length past
  pub here : at data_frame.number past ≡ frame ∷ older
  pub is : is_data_of X frame ≡ true
  pub came_is : came data_frame.number ≡ true
  pub late_is : data_frame.late ≡ newest (late_of X) (at data_frame.number past)

stands-push : (X : End) (came : ℕ → Bool) (frame : PastFrame) (past : List PastFrame) (data_frame : DataCame) → StandsIn X came past data_frame
    → StandsIn X came (frame ∷ past) data_frame
stands-push X came frame past data_frame stands = record {
  frame = stands.frame;
  older = stands.older;
  some = stands.some;
  inside = omega (arith, stands.inside);
  here = at_push frame past stands.inside ∙ stands.here;
  is = stands.is;
  came_is = stands.came_is;
  late_is = stands.late_is ∙ ap (newest (late_of X)) (sym (at_push frame past stands.inside));
}

all-push : (X : End) (came : ℕ → Bool) (frame : PastFrame) (past : List PastFrame) (data_frames : List DataCame) → AllByRecursion (StandsIn X came past) data_frames
    → AllByRecursion (StandsIn X came (frame ∷ past)) data_frames
all-push X came frame past [] all = tt
all-push X came frame past (data_frame ∷ data_frames) all =
    (stands-push X came frame past data_frame all.0, all-push X came frame past data_frames all.1)

-- the newest one
abbrev pub came_now : End → PastFrame → List PastFrame → DataCame
came_now X frame past = record { number = length past + 1; key = frame.key; late = newest (late_of X) (frame ∷ past) }

pub data_came-stand : (X : End) (came : ℕ → Bool) (past : List PastFrame) → AllByRecursion (StandsIn X came past) (data_came X came past)
data_came-stand X came [] = tt
data_came-stand X came (frame ∷ past) =
    let older = all-push X came frame past (data_came X came past) (data_came-stand X came past) in
    elim (cases_Bool (is_data_of X frame && came (length past + 1))) [
      | inl now ↦ subst (AllByRecursion (StandsIn X came (frame ∷ past))) (sym (cond-true _ (came_now X frame past ∷ data_came X came past) (data_came X came past) now))
          (stands (and_parts (is_data_of X frame) (came (length past + 1)) now).0 (and_parts (is_data_of X frame) (came (length past + 1)) now).1, older)
      | inr not_now ↦ subst (AllByRecursion (StandsIn X came (frame ∷ past)))
          (sym (cond-false _ (came_now X frame past ∷ data_came X came past) (data_came X came past) not_now)) older
    ]
  where
    stands : is_data_of X frame ≡ true → came (length past + 1) ≡ true → StandsIn X came (frame ∷ past) (came_now X frame past)
    stands is came_is = record {
      frame = frame;
      older = past;
      some = omega arith;
      inside = omega arith;
      here = at_top;
      is = is;
      came_is = came_is;
      late_is = ap (newest (late_of X)) (sym (at_top {frame = frame} {past = past}));
    }

-- by their numbers and keys they are the data frames that came
pub data_came-numbered : (X : End) (came : ℕ → Bool) (past : List PastFrame) → map numbered_value (data_came X came past) ≡ data_that_came X came past
data_came-numbered X came [] = refl
data_came-numbered X came (frame ∷ past) = elim (cases_Bool (is_data_of X frame && came (length past + 1))) [
  | inl now ↦ ap (map numbered_value) (cond-true _ (came_now X frame past ∷ data_came X came past) (data_came X came past) now)
      ∙ (ap (λ xs. record { number = length past + 1; key = frame.key } ∷ xs) (data_came-numbered X came past)
      ∙ sym (cond-true _ (record { number = length past + 1; key = frame.key } ∷ data_that_came X came past) (data_that_came X came past) now))
  | inr not_now ↦ ap (map numbered_value) (cond-false _ (came_now X frame past ∷ data_came X came past) (data_came X came past) not_now)
      ∙ (data_came-numbered X came past
      ∙ sym (cond-false _ (record { number = length past + 1; key = frame.key } ∷ data_that_came X came past) (data_that_came X came past) not_now))
]

-- ---- when one has reached

-- the newest frame that passes stands under its number
newest-at : (p : PastFrame → Bool) (past : List PastFrame) → 0 < newest p past
    → (frame : PastFrame) × (older : List PastFrame) × (at (newest p past) past ≡ frame ∷ older) × (p frame ≡ true)
newest-at p [] some = absurd (omega arith)
newest-at p (frame ∷ past) some = elim (cases_Bool (p frame)) [
  | inl passes ↦ (frame, past, ap (λ n. at n (frame ∷ past)) (cond-true (p frame) (length past + 1) (newest p past) passes) ∙ at_top, passes)
  | inr fails ↦
      let is : newest p (frame ∷ past) ≡ newest p past = cond-false (p frame) (length past + 1) (newest p past) fails in
      let found = newest-at p past (omega (arith, some, is)) in (
        found.0,
        found.1,
        ap (λ n. at n (frame ∷ past)) is ∙ (at_push frame past (newest_inside p past) ∙ found.2),
        found.3,
      )
]

from_is : (X : End) (frame : PastFrame) → is_data_of X frame ≡ true → frame.from ≡ X
from_is X frame is = same_end X frame.from (and_parts (is_end X frame.from) frame.is_data is).0

pub reached-reaches : (X : End) (came : ℕ → Bool) (past : List PastFrame) (repeats : Repeats) (data_frame : DataCame) → IsRepeats past repeats
    → (data_frame.number ≤ length past → StandsIn X came past data_frame) → HasReached repeats data_frame → Reaches came data_frame.number past
reached-reaches X came past repeats data_frame is stands reached =
    let inside : data_frame.number ≤ length past = omega (arith, reached.inside, is.count_is) in
    let there = stands inside in
    record {
      frame = there.frame;
      older = there.older;
      inside = inside;
      here = there.here;
      comes = there.came_is;
      free = λ held. free there inside (subst (λ Y. IsHeldIn Y data_frame.number past) (from_is X there.frame there.is) held) reached.free;
    }
  where
    free : StandsIn X came past data_frame → data_frame.number ≤ length past → IsHeldIn X data_frame.number past
        → (data_frame.late ≡ 0) ⊎ (data_frame.late < repeats.newest) → ⊥
    free there inside held apart =
        let n = data_frame.number in
        let e : length (at n past) - held.late ≡ n - held.late = omega (arith, length-at n past inside) in
        let again : at held.late (at n past) ≡ at held.late past = ap (λ k. drop k (at n past)) e ∙ at_at past held.before inside in
        let near = newest_from (late_of X) (at n past) (omega (arith, held.before, length-at n past inside)) (again ∙ held.here) held.is_late_one in
        elim apart [
          | inl none ↦ omega (arith, near, there.late_is, none, held.some)
          | inr repeated ↦ omega (arith, near, there.late_is, repeated, held.no_repeat, is.newest_is)
        ]

pub reaches-reached : (X : End) (came : ℕ → Bool) (past : List PastFrame) (repeats : Repeats) (data_frame : DataCame) → IsRepeats past repeats
    → StandsIn X came past data_frame → Reaches came data_frame.number past → HasReached repeats data_frame
reaches-reached X came past repeats data_frame is there reaches =
    record { inside = omega (arith, there.inside, is.count_is); free = apart (cases_lt 0 data_frame.late) (cases_lt data_frame.late repeats.newest) }
  where
    same : reaches.frame ≡ there.frame
    same = let e = sym reaches.here ∙ there.here in cc

    held : 0 < data_frame.late → repeats.newest ≤ data_frame.late → ⊥
    held some above =
        let late_is = there.late_is in
        let found = newest-at (late_of X) (at data_frame.number past) (omega (arith, some, late_is)) in
        let below : data_frame.late ≤ data_frame.number = omega (arith, late_is, newest_inside (late_of X) (at data_frame.number past), length-at data_frame.number past there.inside) in
        let e : length (at data_frame.number past) - data_frame.late ≡ data_frame.number - data_frame.late = omega (arith, length-at data_frame.number past there.inside) in
        let again : at data_frame.late (at data_frame.number past) ≡ at data_frame.late past =
        ap (λ k. drop k (at data_frame.number past)) e ∙ at_at past below there.inside in
        let here : at data_frame.late past ≡ found.0 ∷ found.1 = sym again ∙ (ap (λ k. at k (at data_frame.number past)) late_is ∙ found.2) in
        reaches.free (subst (λ Y. IsHeldIn Y data_frame.number past) (sym (ap (λ (f : PastFrame). f.from) same ∙ from_is X there.frame there.is)) (record {
          late = data_frame.late;
          frame = found.0;
          older = found.1;
          some = some;
          before = below;
          here = here;
          is_late_one = found.3;
          no_repeat = omega (arith, above, is.newest_is);
        }))

    apart : (0 < data_frame.late) ⊎ (data_frame.late ≤ 0) → (data_frame.late < repeats.newest) ⊎ (repeats.newest ≤ data_frame.late)
        → (data_frame.late ≡ 0) ⊎ (data_frame.late < repeats.newest)
    apart (inr none) either = inl (omega (arith, none))
    apart (inl some) (inl below) = inr below
    apart (inl some) (inr above) = absurd (held some above)
