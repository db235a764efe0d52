-- What was said and taken, with its bytes.
use Rattle.line_laws.proofs.Names.{◌≡◌, ℕ, ◌+◌, true, not, ◌&&◌, List, [], ◌∷◌, map, Some, None, refl, sym, ap, ◌∙◌, inl, inr, cases_Bool, cond-true}
use Rattle.line_laws.proofs.Names.{cond-false, Key, data_comes, Part, key_of_part, part_of, add_part, spoken, each_once, FrameCourse, PastFrame, is_end, same_key, first}
use Rattle.line_laws.proofs.Names.{add, said, acked, at, is_data_of, End, data_frame, heard, cons_if, came_keys, ack_keys, AcksFollow}
use Rattle.line_laws.proofs.PastLaws.{same_key-same, same_key-apart}
use Rattle.line_laws.proofs.FaultLaws.{is_data-frame}

pub add_part-keys : (part : Part) (older : List Part) → map key_of_part (add_part part older) ≡ add (Some (part.key)) (map key_of_part older)
add_part-keys part [] = refl
add_part-keys part (newest ∷ older) = elim (cases_Bool (same_key part.key newest.key)) [
  | inl same ↦ ap (λ s. map key_of_part s) (cond-true _ (newest ∷ older) (part ∷ newest ∷ older) same) ∙ sym (cond-true _ _ _ same)
  | inr differ ↦ ap (λ s. map key_of_part s) (cond-false _ (newest ∷ older) (part ∷ newest ∷ older) differ) ∙ sym (cond-false _ _ _ differ)
]

-- another key than the newest
pub add_part-new : {part : Part} (older : List Part) → (first (map key_of_part older) ≡ Some (part.key) → ⊥) → add_part part older ≡ part ∷ older
add_part-new [] new = refl
add_part-new (newest ∷ older) new = cond-false _ _ _ (same_key-apart (λ same. new (ap Some (sym same))))

-- the newest key once more
pub add_part-again : (part : Part) (older : List Part) → first (map key_of_part older) ≡ Some (part.key) → add_part part older ≡ older
add_part-again part [] same = absurd cc
add_part-again part (newest ∷ older) same = (let e : newest.key ≡ part.key = cc in cond-true _ _ _ (ap (λ k. same_key part.key k) e ∙ same_key-same part.key))

-- ---- the keys of what was said

pub spoken_keys : (X : End) (past : List PastFrame) → map key_of_part (spoken X past) ≡ said X past
spoken_keys X [] = refl
spoken_keys X (frame ∷ past) = let older = spoken_keys X past in elim (cases_Bool (is_data_of X frame)) [
  | inl is ↦ ap (λ s. map key_of_part s) (cond-true (is_data_of X frame) (add_part (part_of frame) (spoken X past)) (spoken X past) is)
      ∙ add_part-keys (part_of frame) (spoken X past) ∙ ap (λ s. add (Some frame.key) s) older
      ∙ sym (ap (λ o. add o (said X past)) (cond-true (is_data_of X frame) (Some frame.key) None is))
  | inr other ↦ ap (λ s. map key_of_part s) (cond-false (is_data_of X frame) (add_part (part_of frame) (spoken X past)) (spoken X past) other) ∙ older
      ∙ sym (ap (λ o. add o (said X past)) (cond-false (is_data_of X frame) (Some frame.key) None other))
]

-- ---- the keys of what was taken are those that were acknowledged

pub heard_keys : (X : End) (past : List PastFrame) → map key_of_part (heard X past) ≡ each_once (came_keys X past)
heard_keys X [] = refl
heard_keys X (frame ∷ past) = let older = heard_keys X past in elim (cases_Bool (data_comes X frame)) [
  | inl is ↦ ap (λ s. map key_of_part s) (cond-true (data_comes X frame) (add_part (part_of frame) (heard X past)) (heard X past) is)
      ∙ add_part-keys (part_of frame) (heard X past) ∙ ap (λ s. add (Some frame.key) s) older
      ∙ sym (ap (λ b. each_once (cons_if b frame.key (came_keys X past))) is)
  | inr other ↦ ap (λ s. map key_of_part s) (cond-false (data_comes X frame) (add_part (part_of frame) (heard X past)) (heard X past) other) ∙ older
      ∙ sym (ap (λ b. each_once (cons_if b frame.key (came_keys X past))) other)
]

pub acked_each_once : (Y : End) (past : List PastFrame) → acked Y past ≡ each_once (ack_keys Y past)
acked_each_once Y [] = refl
acked_each_once Y (frame ∷ past) = let older = acked_each_once Y past in elim (cases_Bool (is_end Y frame.from && not frame.is_data)) [
  | inl is ↦ ap (λ o. add o (acked Y past)) (cond-true (is_end Y frame.from && not frame.is_data) (Some frame.key) None is) ∙ ap (λ s. add (Some frame.key) s)
      older ∙ sym (ap (λ b. each_once (cons_if b frame.key (ack_keys Y past))) is)
  | inr other ↦ ap (λ o. add o (acked Y past)) (cond-false (is_end Y frame.from && not frame.is_data) (Some frame.key) None other) ∙ older
      ∙ sym (ap (λ b. each_once (cons_if b frame.key (ack_keys Y past))) other)
]

pub heard_is_acked : (X Y : End) (past : List PastFrame) (cx : ℕ) → AcksFollow X Y past cx → map key_of_part (heard X (at cx past)) ≡ acked Y past
heard_is_acked X Y past cx follow = heard_keys X (at cx past) ∙ ap each_once (sym follow) ∙ sym (acked_each_once Y past)

-- ---- over the steps

-- X begins a fragment: one part more
pub spoken_begins : (X : End) {key : Key} {bytes : List ℕ} (course : FrameCourse) (past : List PastFrame) → (first (said X past) ≡ Some key → ⊥)
    → spoken X (data_frame X key bytes course ∷ past) ≡ record { key = key; bytes = bytes } ∷ spoken X past
spoken_begins X {key} {bytes} course past new =
    cond-true _ _ _ (is_data-frame X key bytes course) ∙ add_part-new (spoken X past) (λ same. new (ap first (sym (spoken_keys X past)) ∙ same))

-- X sends again: none more
pub spoken_again : (X : End) {key : Key} (bytes : List ℕ) (course : FrameCourse) (past : List PastFrame) → first (said X past) ≡ Some key
    → spoken X (data_frame X key bytes course ∷ past) ≡ spoken X past
spoken_again X {key} bytes course past same =
    cond-true _ _ _ (is_data-frame X key bytes course) ∙ add_part-again _ (spoken X past) (ap first (spoken_keys X past) ∙ same)

-- the other end takes a new fragment: one part more
pub heard_newest : (X Y : End) (past : List PastFrame) (cx : ℕ) {frame : PastFrame} → AcksFollow X Y past cx → at (cx + 1) past ≡ frame ∷ at cx past
    → data_comes X frame ≡ true → (first (acked Y past) ≡ Some (frame.key) → ⊥) → heard X (at (cx + 1) past) ≡ part_of frame ∷ heard X (at cx past)
heard_newest X Y past cx follow here comes_here new = ap (λ s. heard X s) here ∙ cond-true _ _ _ comes_here ∙ add_part-new (heard X (at cx past))
    (λ same. new (ap first (sym (heard_is_acked X Y past cx follow)) ∙ same))

-- it takes a copy: none more
pub heard_copy : (X Y : End) (past : List PastFrame) (cx : ℕ) {frame : PastFrame} → AcksFollow X Y past cx → at (cx + 1) past ≡ frame ∷ at cx past
    → data_comes X frame ≡ true → first (acked Y past) ≡ Some (frame.key) → heard X (at (cx + 1) past) ≡ heard X (at cx past)
heard_copy X Y past cx follow here comes_here same =
    ap (λ s. heard X s) here ∙ cond-true _ _ _ comes_here ∙ add_part-again _ (heard X (at cx past)) (ap first (heard_is_acked X Y past cx follow) ∙ same)
