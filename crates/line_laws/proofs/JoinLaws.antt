-- Release and faults over the whole tick, how an acknowledged fragment is known, and tries as a number of frames.
use Rattle.line_laws.proofs.Names.{rules, ◌≡◌, ◌⊎◌, ℕ, ◌+◌, ◌<◌, ◌≤◌, Bool, true, false, List, ◌∷◌, length, Some, refl, sym, ap, subst, ◌∙◌, arith, inl, inr}
use Rattle.line_laws.proofs.Names.{cases_lt, both_ways, Key, comes, faulted, newest, last_repeat, newest_repeat, RepeatsHaveFaults, FrameCourse, PastFrame, is_end, first}
use Rattle.line_laws.proofs.Names.{said, acked, at, IsDataOf, IsAckOf, is_data_of, is_repeat, run, End, Handheld, Desktop, Apart, Follows, data_frame, Release}
use Rattle.line_laws.proofs.Names.{IsAcknowledged, AcksBehind}
use Rattle.line_laws.proofs.CountLaws.{follows-length}
use Rattle.line_laws.proofs.PastLaws.{at_push, at_all, said_data-other}
use Rattle.line_laws.proofs.FaultLaws.{newest_push}
use Rattle.line_laws.proofs.TraceLaws.{last_repeat-is, last_repeat-stays, last_repeat-inside, newest_repeat-of, again_repeats, release_tick, faults_again}

-- the frame of X is a repeat of X, and none of another end
pub repeat_only : (X Y : End) (key : Key) (bytes : List ℕ) (course : FrameCourse) (past : List PastFrame) → is_end Y X ≡ false
    → is_repeat Y (data_frame X key bytes course) past ≡ false
repeat_only X Y key bytes course past apart = cc

-- each end is X or Y
pub either : (X Y Z : End) → is_end X Y ≡ false → (Z ≡ X) ⊎ (Z ≡ Y)
either Handheld Handheld Z apart = absurd cc
either Desktop Desktop Z apart = absurd cc
either Handheld Desktop Handheld apart = inl refl
either Handheld Desktop Desktop apart = inr refl
either Desktop Handheld Handheld apart = inr refl
either Desktop Handheld Desktop apart = inl refl

near_of : (X Y : End) (past : List PastFrame) (released : ℕ) → is_end X Y ≡ false → last_repeat X past ≤ released + 2 → last_repeat Y past ≤ released + 2
    → (Z : End) → last_repeat Z past ≤ released + 2
near_of X Y past released apart x y Z = search rules

-- release and faults where X alone waits
pub release_one : {X Y : End} {past : List PastFrame} {cx cy released : ℕ} {key : Key} {bytes : List ℕ} {course : FrameCourse} → Apart X Y
    → first (said X past) ≡ Some key → Release X past cx released → Release Y past cy released → cx ≤ length past → cy ≤ length past
    → RepeatsHaveFaults past → released < newest faulted past
    → Release X (data_frame X key bytes course ∷ past) cx (length past) × Release Y (data_frame X key bytes course ∷ past) cy (length past)
    × RepeatsHaveFaults (data_frame X key bytes course ∷ past)
release_one {X} {Y} {past} {released} {key} {bytes} {course} apart newest_is x_release y_release x_in y_in faults fault =
    let frame = data_frame X key bytes course in
    let is = last_repeat-is X frame past (again_repeats X bytes course past newest_is) in
    let other = last_repeat-stays Y frame past (repeat_only X Y key bytes course past apart.back) in
    let above : length past < newest_repeat (frame ∷ past) = omega (arith, is, newest_repeat-of X (frame ∷ past)) in (
      release_tick past x_in above (omega (arith, is)) (at_push frame past x_in),
      release_tick past y_in above (omega (arith, other, last_repeat-inside Y past)) (at_push frame past y_in),
      faults_again X Y frame past {released = released} {fault = newest faulted past} faults
          (λ Z _. near_of X Y past released apart.there x_release.near y_release.near Z) fault (omega arith),
    )

-- and where both wait
pub release_two : {X Y : End} {past : List PastFrame} {cx cy released : ℕ} {key : Key} {bytes : List ℕ} {course : FrameCourse} {key' : Key}
    {bytes' : List ℕ} {course' : FrameCourse}
    → Apart X Y → first (said X past) ≡ Some key → first (said Y past) ≡ Some key' → Release X past cx released → Release Y past cy released
    → cx ≤ length past → cy ≤ length past
    → RepeatsHaveFaults past → released < newest faulted past
    → Release X (data_frame Y key' bytes' course' ∷ data_frame X key bytes course ∷ past) cx (length past)
    × Release Y (data_frame Y key' bytes' course' ∷ data_frame X key bytes course ∷ past) cy (length past)
    × RepeatsHaveFaults (data_frame Y key' bytes' course' ∷ data_frame X key bytes course ∷ past)
release_two {X} {Y} {past} {cx} {cy} {released} {key} {bytes} {course} {key'} {bytes'} {course'} apart newest_x newest_y x_release
    y_release x_in y_in faults fault =
    let frame = data_frame X key bytes course in
    let mid = frame ∷ past in
    let last = data_frame Y key' bytes' course' in
    let one = release_one {bytes = bytes} {course = course} apart newest_x x_release y_release x_in y_in faults fault in
    let is = last_repeat-is X frame past (again_repeats X bytes course past newest_x) in
    let stays = last_repeat-stays Y frame past (repeat_only X Y key bytes course past apart.back) in
    let still : first (said Y mid) ≡ Some key' = ap first (said_data-other X Y apart.back key bytes course past) ∙ newest_y in
    let is' = last_repeat-is Y last mid (again_repeats Y bytes' course' mid still) in
    let stays' = last_repeat-stays X last mid (repeat_only Y X key' bytes' course' mid apart.there) in
    let above : length past < newest_repeat (last ∷ mid) = omega (arith, is', newest_repeat-of Y (last ∷ mid)) in
    let same_x : at cx (last ∷ mid) ≡ at cx past = at_push last mid (omega (arith, x_in)) ∙ at_push frame past x_in in
    let same_y : at cy (last ∷ mid) ≡ at cy past = at_push last mid (omega (arith, y_in)) ∙ at_push frame past y_in in (
      release_tick past x_in above (omega (arith, is, stays')) same_x,
      release_tick past y_in above (omega (arith, is')) same_y,
      faults_again Y X last mid one.2 (λ Z repeats. only_y Z repeats (omega (arith, stays, y_release.near))) fault (newest_push faulted frame past),
    ) where
      only_y : (Z : End) → is_repeat Z (data_frame Y key' bytes' course') (data_frame X key bytes course ∷ past) ≡ true
          → last_repeat Y (data_frame X key bytes course ∷ past) ≤ released + 2 → last_repeat Z (data_frame X key bytes course ∷ past) ≤ released + 2
      only_y Z repeats near = elim (either X Y Z apart.there) [
        | inl is ↦ absurd (both_ways _ (repeat_only Y X key' bytes' course' (data_frame X key bytes course ∷ past) apart.there)
            (subst (λ E. is_repeat E (data_frame Y key' bytes' course') (data_frame X key bytes course ∷ past) ≡ true) is repeats))
        | inr is ↦ subst (λ E. last_repeat E (data_frame X key bytes course ∷ past) ≤ released + 2) (sym is) near
      ]

-- ---- how X's newest fragment came to be acknowledged: by the frame of Y at the cursor

pub acknowledged_by_ack : {X Y : End} {past : List PastFrame} (cy : ℕ) {frame : PastFrame} → at (cy + 1) past ≡ frame ∷ at cy past → IsAckOf Y frame
    → comes frame.course ≡ true → length (said X (at (cy + 1) past)) ≡ length (said X past) → first (said X past) ≡ Some (frame.key)
    → IsAcknowledged X Y past (cy + 1)
acknowledged_by_ack cy here is came newest_is key = search rules

pub acknowledged_by_answer : {X Y : End} {past : List PastFrame} (cy : ℕ) {frame : PastFrame} → at (cy + 1) past ≡ frame ∷ at cy past → IsDataOf Y frame
    → comes frame.course ≡ true → length (acked Y (at (cy + 1) past)) ≡ length (said X past) → IsAcknowledged X Y past (cy + 1)
acknowledged_by_answer cy here is came newest_is = search rules

-- ---- acknowledgements stand behind what they acknowledge

pub acks_behind-push : (X Y : End) (frame : PastFrame) (past : List PastFrame) (fresh : Bool) → AcksBehind X Y past
    → Follows (said X (frame ∷ past)) (acked Y (frame ∷ past)) fresh → AcksBehind X Y (frame ∷ past)
acks_behind-push X Y frame past fresh all follows n inside = elim (cases_lt (length past) n) [
  | inl new ↦ (let e : n ≡ length (frame ∷ past) = omega arith in
      let here : at n (frame ∷ past) ≡ frame ∷ past = ap (λ k. at k (frame ∷ past)) e ∙ at_all (frame ∷ past) in
      omega (arith, follows-length _ _ fresh follows, ap (λ s. length (said X s)) here, ap (λ s. length (acked Y s)) here))
  | inr old ↦ (let here = at_push frame past old in
      omega (arith, all n old, ap (λ s. length (said X s)) here, ap (λ s. length (acked Y s)) here))
]

-- ---- tries

pub run_again : (X : End) {key : Key} (bytes : List ℕ) (course : FrameCourse) (past : List PastFrame) → first (said X past) ≡ Some key
    → run X (data_frame X key bytes course ∷ past) ≡ run X past + 1
run_again X bytes course past newest_is = search rules

pub run_begins : (X : End) {key : Key} (bytes : List ℕ) (course : FrameCourse) (past : List PastFrame) → (first (said X past) ≡ Some key → ⊥)
    → run X (data_frame X key bytes course ∷ past) ≡ 1
run_begins X bytes course past new = search rules

pub run_other : (X : End) (frame : PastFrame) (past : List PastFrame) → is_data_of X frame ≡ false → run X (frame ∷ past) ≡ run X past
run_other X frame past other = cc
