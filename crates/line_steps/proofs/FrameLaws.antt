-- The frames of the program as a past.
use Rattle.line_steps.proofs.Names.{common_steps, rules, ◌≡◌, ℕ, zero, suc, ◌+◌, ◌-◌, false, List, [], ◌∷◌, ◌++◌, length, map, reverse, take, drop, Some, refl}
use Rattle.line_steps.proofs.Names.{sym, ap, subst, ◌∙◌, arith, slice_get, drop-append_seam, drop-append-add, drop-cons, cond-false, append_assoc, append-nil}
use Rattle.line_steps.proofs.Names.{map-append, reverse-append, take-append-drop, length-drop, get_or_from_slice_get, slice_get_within, Frame, is_abort}
use Rattle.line_steps.proofs.Names.{fragment_in, sent_in, add_frame, past_behind, PastFrame, at, FrameValue, frame_value, sent_of, past_now, Goes, AllGo}

-- ---- no frame of a running line bears an abort

pub not_abort : {number : ℕ} {frame : FrameValue} → Goes number frame → is_abort (fragment_in frame).kind ≡ false
not_abort goes = search rules

pub added : {number : ℕ} {frame : FrameValue} {past : List PastFrame} → Goes number frame → add_frame frame past ≡ sent_in frame ∷ past
added goes = cond-false _ _ _ (not_abort goes)

-- ---- the past

pub behind_push : (past : List PastFrame) (frames : List FrameValue) (frame : FrameValue)
    → past_behind past (frames ++ frame ∷ []) ≡ add_frame frame (past_behind past frames)
behind_push past [] frame = refl
behind_push past (older ∷ frames) frame = behind_push (add_frame older past) frames frame

pub past_push : (frames : List Frame) (frame : Frame) {number : ℕ} → Goes number (frame_value frame)
    → past_now (frames ++ frame ∷ []) ≡ sent_of frame ∷ past_now frames
past_push frames frame goes =
    ap (λ fs. past_behind [] fs) (map-append frame_value frames (frame ∷ [])) ∙ behind_push [] (map frame_value frames) (frame_value frame) ∙ added goes

abbrev turned_round : List Frame → List PastFrame
turned_round frames = reverse (map sent_of frames)

behind_is : (past : List PastFrame) (number : ℕ) (frames : List Frame) → AllGo number frames
    → past_behind past (map frame_value frames) ≡ turned_round frames ++ past
behind_is past number [] go = refl
behind_is past number (frame ∷ later) go =
    let one = sent_of frame in
    ap (λ p. past_behind p (map frame_value later)) (added go.0) ∙ behind_is (one ∷ past) (number + 1) later go.1
    ∙ sym (ap (λ s. s ++ past) (reverse-append (one ∷ []) (map sent_of later)) ∙ append_assoc (turned_round later) (one ∷ []) past)

past_is : (frames : List Frame) → AllGo 1 frames → past_now frames ≡ turned_round frames
past_is frames go = behind_is [] 1 frames go ∙ append-nil (turned_round frames)

length-turned : (frames : List Frame) → length (turned_round frames) ≡ length frames
length-turned frames = grind (arith, common_steps)

pub length-past : (frames : List Frame) → AllGo 1 frames → length (past_now frames) ≡ length frames
length-past frames go = ap length (past_is frames go) ∙ length-turned frames

drop_two : (front : List PastFrame) {x : PastFrame} (back : List PastFrame) → drop (length front) (front ++ x ∷ back) ≡ x ∷ drop (length front + 1) (front ++ x ∷ back)
drop_two front {x} back = drop-append_seam front (x ∷ back) ∙ ap (λ s. x ∷ s) (sym (drop-append-add front (x ∷ back) 1))

turned_at : (frames : List Frame) (n : ℕ) {frame : Frame} → slice_get frames n ≡ Some frame
    → at (n + 1) (turned_round frames) ≡ sent_of frame ∷ at n (turned_round frames)
turned_at frames n {frame} is =
    let inside = slice_get_within frames n frame is in
    let front = turned_round (drop (suc n) frames) in
    let back = turned_round (take n frames) in
    let here = drop-cons frames n frame inside in
    let cut : frames ≡ take n frames ++ frame ∷ drop (suc n) frames = sym (take-append-drop n frames)
    ∙ ap (λ s. take n frames ++ s) (here ∙ ap (λ f. f ∷ drop (suc n) frames) (get_or_from_slice_get frames n frame frame is)) in
    let two : turned_round (take n frames ++ frame ∷ drop (suc n) frames) ≡ front ++ sent_of frame ∷ back =
    ap (λ s. reverse s) (map-append sent_of (take n frames) (frame ∷ drop (suc n) frames)) ∙ parts in
    let all : turned_round frames ≡ front ++ sent_of frame ∷ back = ap turned_round cut ∙ two in
    let len : length front ≡ length (turned_round frames) - (n + 1) =
    omega (arith, length-turned (drop (suc n) frames), length-turned frames, length-drop (suc n) frames) in
    let more : length front + 1 ≡ length (turned_round frames) - n = omega (arith, len, length-turned frames) in
    ap (λ k. drop k (turned_round frames)) (sym len) ∙ subst (λ p. drop (length front) p ≡ sent_of frame ∷ drop (length front + 1) p) (sym all)
    (drop_two front back) ∙ ap (λ k. sent_of frame ∷ drop k (turned_round frames)) more where
      parts : reverse (map sent_of (take n frames) ++ sent_of frame ∷ map sent_of (drop (suc n) frames)) ≡ turned_round (drop (suc n) frames) ++ sent_of
          frame ∷ turned_round (take n frames)
      parts = reverse-append (map sent_of (take n frames)) (sent_of frame ∷ map sent_of (drop (suc n) frames)) ∙ ap (λ s. s ++ turned_round (take n frames))
          (reverse-append (sent_of frame ∷ []) (map sent_of (drop (suc n) frames))) ∙ append_assoc (turned_round (drop (suc n) frames))
          (sent_of frame ∷ []) (turned_round (take n frames))

pub past_at : (frames : List Frame) (n : ℕ) {frame : Frame} → AllGo 1 frames → slice_get frames n ≡ Some frame
    → at (n + 1) (past_now frames) ≡ sent_of frame ∷ at n (past_now frames)
past_at frames n {frame} go is = subst (λ p. at (n + 1) p ≡ sent_of frame ∷ at n p) (sym (past_is frames go)) (turned_at frames n is)

-- ---- one of them, and one more

pub go_at : (number : ℕ) (frames : List Frame) (n : ℕ) {frame : Frame} → AllGo number frames → slice_get frames n ≡ Some frame
    → Goes (number + n) (frame_value frame)
go_at number [] n go is = absurd cc
go_at number (first ∷ later) zero {frame} go is = (let same : first ≡ frame = cc in let none : number ≡ number + 0 = omega arith in
    subst (λ k. Goes k (frame_value frame)) none (subst (λ f. Goes number (frame_value f)) same go.0))
go_at number (first ∷ later) (suc n) {frame} go is = (let next : number + 1 + n ≡ number + suc n = omega arith in
    subst (λ k. Goes k (frame_value frame)) next (go_at (number + 1) later n {frame = frame} go.1 is))

pub go_push : (number : ℕ) (frames : List Frame) (frame : Frame) → AllGo number frames → Goes (number + length frames) (frame_value frame)
    → AllGo number (frames ++ frame ∷ [])
go_push number [] frame go one = (let none : number + 0 ≡ number = omega arith in (subst (λ k. Goes k (frame_value frame)) none one, tt))
go_push number (first ∷ later) frame go one = (let next : number + suc (length later) ≡ number + 1 + length later = omega arith in
    (go.0, go_push (number + 1) later frame go.1 (subst (λ k. Goes k (frame_value frame)) next one)))
