-- Repeats, held frames and acknowledgements over the steps.
use Rattle.line_laws.proofs.Names.{common_steps, rules, ◌≡◌, ◌⊎◌, ℕ, ◌+◌, ◌-◌, ◌<◌, ◌≤◌, true, false, not, ◌&&◌, List, [], ◌∷◌, length, drop, Some, ap, ◌∙◌}
use Rattle.line_laws.proofs.Names.{arith, inl, inr, cases_Bool, cond-true, cond-false, Key, faulted, late_of, data_comes, newest, last_repeat, newest_repeat}
use Rattle.line_laws.proofs.Names.{IsHeldIn, RepeatsHaveFaults, FrameCourse, PastFrame, is_end, first, said, at, is_data_of, is_repeat, End, Handheld, Desktop}
use Rattle.line_laws.proofs.Names.{data_frame, ack_frame, Release, AcksFollow}
use Rattle.line_laws.proofs.PastLaws.{at_push, at_at, length-at}
use Rattle.line_laws.proofs.FaultLaws.{newest_inside, newest_from}

-- ---- repeats

pub last_repeat-is : (X : End) (frame : PastFrame) (past : List PastFrame) → is_repeat X frame past ≡ true → last_repeat X (frame ∷ past) ≡ length past + 1
last_repeat-is X frame past is = cond-true _ _ _ is

pub last_repeat-stays : (X : End) (frame : PastFrame) (past : List PastFrame) → is_repeat X frame past ≡ false → last_repeat X (frame ∷ past) ≡ last_repeat X past
last_repeat-stays X frame past is = cond-false _ _ _ is

pub last_repeat-inside : (X : End) (past : List PastFrame) → last_repeat X past ≤ length past
last_repeat-inside X [] = omega arith
last_repeat-inside X (frame ∷ past) = let below = last_repeat-inside X past in elim (cases_Bool (is_repeat X frame past)) [
  | inl is ↦ omega (arith, last_repeat-is X frame past is)
  | inr not_one ↦ omega (arith, below, last_repeat-stays X frame past not_one)
]

pub last_repeat-grows : (X : End) (frame : PastFrame) (past : List PastFrame) → last_repeat X past ≤ last_repeat X (frame ∷ past)
last_repeat-grows X frame past = let below = last_repeat-inside X past in elim (cases_Bool (is_repeat X frame past)) [
  | inl is ↦ omega (arith, below, last_repeat-is X frame past is)
  | inr not_one ↦ omega (arith, below, last_repeat-stays X frame past not_one)
]

pub newest_repeat-grows : (frame : PastFrame) (past : List PastFrame) → newest_repeat past ≤ newest_repeat (frame ∷ past)
newest_repeat-grows frame past = let a = last_repeat-grows Handheld frame past in let b = last_repeat-grows Desktop frame past in omega (arith, a, b)

pub newest_repeat-of : (X : End) (past : List PastFrame) → last_repeat X past ≤ newest_repeat past
newest_repeat-of Handheld past = omega arith
newest_repeat-of Desktop past = omega arith

-- what X sends again is a repeat; what it begins isn't
pub again_repeats : (X : End) {key : Key} (bytes : List ℕ) (course : FrameCourse) (past : List PastFrame) → first (said X past) ≡ Some key
    → is_repeat X (data_frame X key bytes course) past ≡ true
again_repeats X bytes course past is = search rules

pub begun_no_repeat : (X : End) {key : Key} (bytes : List ℕ) (course : FrameCourse) (past : List PastFrame) → (first (said X past) ≡ Some key → ⊥)
    → is_repeat X (data_frame X key bytes course) past ≡ false
begun_no_repeat X bytes course past new = search rules

pub other_no_repeat : (X : End) (frame : PastFrame) (past : List PastFrame) → is_data_of X frame ≡ false → is_repeat X frame past ≡ false
other_no_repeat X frame past not_one = cc

-- ---- release

-- a frame up to the cursor isn't held, now or later
pub taken_not_held : {X : End} {past : List PastFrame} {cx released n : ℕ} → Release X past cx released → cx ≤ length past → n ≤ cx → IsHeldIn X n past → ⊥
taken_not_held {X} {past} {cx} {released} release inside before held =
    let here : at held.late (at cx past) ≡ held.frame ∷ held.older = again_at ∙ held.here in
    let near = newest_from (late_of X) (at cx past) (omega (arith, held.before, length-at cx past inside)) here held.is_late_one in
    go release.repeated near where
      again_at : at held.late (at cx past) ≡ at held.late past
      again_at = let e : length (at cx past) - held.late ≡ cx - held.late =
          omega (arith, length-at cx past inside) in ap (λ k. drop k (at cx past)) e ∙ at_at past (omega (arith, held.before)) inside

      go : (released ≡ 0) ⊎ (released < newest_repeat past) → held.late ≤ newest (late_of X) (at cx past) → ⊥
      go (inl none) near = omega (arith, near, release.late, none, held.some)
      go (inr repeated) near = omega (arith, near, release.late, repeated, held.no_repeat)

-- a frame that is no repeat of X
pub release_push : {X : End} {frame : PastFrame} {past : List PastFrame} {cx released : ℕ} → Release X past cx released → cx ≤ length past
    → is_repeat X frame past ≡ false → Release X (frame ∷ past) cx released
release_push {X} {frame} {past} release inside not_one = record {
  late = omega (arith, release.late, ap (λ s. newest (late_of X) s) (at_push frame past inside));
  repeated = elim release.repeated [
    | inl none ↦ inl none
    | inr some ↦ inr (omega (arith, some, newest_repeat-grows frame past))
  ];
  near = omega (arith, release.near, last_repeat-stays X frame past not_one);
}

-- the cursor moves past a frame that isn't held
pub release_moves : {X : End} {past : List PastFrame} {cx released : ℕ} {frame : PastFrame} → Release X past cx released → at (cx + 1) past ≡ frame ∷ at cx past
    → cx < length past → (late_of X frame ≡ true → cx + 1 ≤ released) → Release X past (cx + 1) released
release_moves release here inside free = grind (arith, common_steps)

-- the tick, once a timer ran: X's repeat, or the other's
pub release_tick : {X : End} (past : List PastFrame) {later : List PastFrame} {cx : ℕ} → cx ≤ length past → length past < newest_repeat later
    → last_repeat X later ≤ length past + 2 → at cx later ≡ at cx past → Release X later cx (length past)
release_tick {X} past {cx} inside repeated near same = record {
  late = omega (arith, ap (λ s. newest (late_of X) s) same, newest_inside (late_of X) (at cx past), length-at cx past inside);
  repeated = inr repeated;
  near = near;
}

-- ---- each repeat has its fault

pub faults_push : (frame : PastFrame) (past : List PastFrame) → RepeatsHaveFaults past → ((X : End) → is_repeat X frame past ≡ false) → RepeatsHaveFaults (frame ∷ past)
faults_push frame past all not_one = search rules

-- X's repeat at a tick, the first or the second of it
pub faults_again : (X Y : End) (frame : PastFrame) (past : List PastFrame) {released fault : ℕ} → RepeatsHaveFaults past
    → ((Z : End) → is_repeat Z frame past ≡ true → last_repeat Z past ≤ released + 2) → released < fault → fault ≤ newest faulted past
    → RepeatsHaveFaults (frame ∷ past)
faults_again X Y frame past all near above stays = search rules

-- ---- acknowledgements

pub acks_taken : (X Y : End) {key : Key} (course : FrameCourse) (past : List PastFrame) {cx : ℕ} {frame : PastFrame} → AcksFollow X Y past cx → cx < length past
    → at (cx + 1) past ≡ frame ∷ at cx past → data_comes X frame ≡ true → frame.key ≡ key
    → AcksFollow X Y (ack_frame Y key course ∷ past) (cx + 1)
acks_taken X Y course past follow inside here comes_here same = search rules

pub acks_push : (X Y : End) (frame : PastFrame) (past : List PastFrame) {cx : ℕ} → AcksFollow X Y past cx → cx ≤ length past
    → (is_end Y frame.from && not frame.is_data) ≡ false → AcksFollow X Y (frame ∷ past) cx
acks_push X Y frame past follow inside no_ack = search rules
