-- What an end took of the other one's messages, over each kind of step.
use Rattle.line_steps.proofs.Names.{rules, ◌≡◌, ℕ, ◌+◌, ◌-◌, ◌<◌, ◌≤◌, Bool, true, false, List, [], ◌∷◌, ◌++◌, length, reverse, Some, refl, sym, ap, ◌∙◌, arith}
use Rattle.line_steps.proofs.Names.{inl, inr, cond-false, and_from, append_assoc, reverse-append, length-map, Key, session_id, ReceiverValue, End, comes}
use Rattle.line_steps.proofs.Names.{data_comes, key_of_part, part_of, spoken, message_parts, FrameCourse, PastFrame, is_end, first, data_of, said, acked, at, is_data_of}
use Rattle.line_steps.proofs.Names.{IsDataOf, Talk, messages_of, pieces_before, Side, Waiting, Follows, CoreAt, key_now, part_now, data_frame, heard}
use Rattle.line_steps.proofs.Names.{count_messages, left, say, unsaid, Speech, AcksFollow, pending_data, longer-say, count-say, spoken_keys, spoken_begins}
use Rattle.line_steps.proofs.Names.{spoken_again, heard_newest, heard_copy, at_push, keys_apart, parts-say, part_of_now, HeardOf, TookMessages}

-- ---- the cursor

-- over what is no data that comes
pub heard_past : (X : End) (past : List PastFrame) (cx : ℕ) {frame : PastFrame} (fx : Bool) (side : Side) → at (cx + 1) past ≡ frame ∷ at cx past
    → data_comes X frame ≡ false → HeardOf X past cx fx side → HeardOf X past (cx + 1) fx side
heard_past X past cx false side here other was = ap (λ p. heard X p) here ∙ cond-false _ _ _ other ∙ was
heard_past X past cx true side here other was = was ∙ ap (λ ps. part_of_now side ∷ ps) (sym (ap (λ p. heard X p) here ∙ cond-false _ _ _ other))

-- over a copy
pub heard_again : (X Y : End) (past : List PastFrame) (cx : ℕ) {frame : PastFrame} (fx : Bool) (side : Side) → AcksFollow X Y past cx
    → at (cx + 1) past ≡ frame ∷ at cx past → data_comes X frame ≡ true → first (acked Y past) ≡ Some frame.key
    → HeardOf X past cx fx side → HeardOf X past (cx + 1) fx side
heard_again X Y past cx false side follow here comes_here copy was = heard_copy X Y past cx follow here comes_here copy ∙ was
heard_again X Y past cx true side follow here comes_here copy was =
    was ∙ ap (λ ps. part_of_now side ∷ ps) (sym (heard_copy X Y past cx follow here comes_here copy))

-- over the newest fragment
pub heard_new : {X Y : End} {past : List PastFrame} {cx cy : ℕ} {x y : Side} {rx ry : ReceiverValue} {fx fy : Bool} {frame : PastFrame}
    → CoreAt X Y past cx cy x y rx ry fx fy → AcksFollow X Y past cx → cx < length past → at (cx + 1) past ≡ frame ∷ at cx past → IsDataOf X frame
    → comes frame.course ≡ true → fx ≡ true → frame.key ≡ key_now x → Waiting x → HeardOf X past cx fx x → HeardOf X past (cx + 1) false x
heard_new {X} {Y} {past} {cx} {x} {fx} {frame} core follow inside here is comes_here fresh key waits was = go fx fresh core.there.follows was where
  go : (f : Bool) → f ≡ true → Follows (said X past) (acked Y past) f → HeardOf X past cx f x → heard X (at (cx + 1) past) ≡ spoken X past
  go false is_fresh follows was = absurd cc
  go true is_fresh follows was =
      let top : Some follows.0 ≡ Some (key_now x) = sym (ap first follows.1) ∙ core.x_speaks.newest waits in
      let new : first (acked Y past) ≡ Some frame.key → ⊥ = λ same. keys_apart (data_of X) past follows.1 (same ∙ (ap Some key ∙ sym top)) in
      let newest : length (said X (at (cx + 1) past)) ≡ length (said X past) = elim (pending_data fx core.there (omega arith) (omega (arith, inside)) here is) [
        | inl copy ↦ absurd (new copy.key)
        | inr it ↦ it.newest
      ] in
      let bytes : frame.bytes ≡ (part_now x).bytes =
      core.x_speaks.bytes waits (cx + 1) frame (at cx past) (omega (arith, inside)) here is (ap (λ p. length (said X p)) (sym here) ∙ newest) in
      let part : part_of frame ≡ part_of_now x = λ i. record { key = key i; bytes = bytes i } in
      heard_newest X Y past cx follow here (and_from (is_data_of X frame) (comes frame.course) is comes_here) new
      ∙ (ap (λ p. p ∷ heard X (at cx past)) part ∙ sym was)

-- ---- a frame more

-- that is no data of X
pub heard_beside : (X : End) (frame : PastFrame) (past : List PastFrame) {cx : ℕ} (fx : Bool) (side : Side) → cx ≤ length past → is_data_of X frame ≡ false
    → HeardOf X past cx fx side → HeardOf X (frame ∷ past) cx fx side
heard_beside X frame past false side inside other was = ap (λ p. heard X p) (at_push frame past inside) ∙ (was ∙ sym (cond-false _ _ _ other))
heard_beside X frame past true side inside other was = cond-false _ _ _ other ∙ (was ∙ ap (λ p. part_of_now side ∷ heard X p) (sym (at_push frame past inside)))

-- its next fragment
pub heard_begins : (X : End) (past : List PastFrame) {cx : ℕ} (old side : Side) (course : FrameCourse) → cx ≤ length past
    → (first (said X past) ≡ Some (key_now side) → ⊥) → HeardOf X past cx false old
    → HeardOf X (data_frame X (key_now side) ((part_now side).bytes) course ∷ past) cx true side
heard_begins X past old side course inside new was =
    let frame = data_frame X (key_now side) ((part_now side).bytes) course in
    spoken_begins X course past new ∙ ap (λ ps. part_of_now side ∷ ps) (sym was ∙ ap (λ p. heard X p) (sym (at_push frame past inside)))

-- its newest fragment again
pub heard_same : (X : End) (past : List PastFrame) {cx : ℕ} (fx : Bool) (side : Side) {key : Key} (bytes : List ℕ) (course : FrameCourse) → cx ≤ length past
    → first (said X past) ≡ Some key → HeardOf X past cx fx side
    → HeardOf X (data_frame X key bytes course ∷ past) cx fx side
heard_same X past false side {key} bytes course inside newest was =
    ap (λ p. heard X p) (at_push (data_frame X key bytes course) past inside) ∙ (was ∙ sym (spoken_again X bytes course past newest))
heard_same X past true side {key} bytes course inside newest was =
    spoken_again X bytes course past newest ∙ (was ∙ ap (λ p. part_of_now side ∷ heard X p) (sym (at_push (data_frame X key bytes course) past inside)))

-- ---- so the messages were taken, but for a rest of the last one

pub length-spoken : (X : End) (past : List PastFrame) → length (spoken X past) ≡ length (said X past)
length-spoken X past = sym (length-map (spoken X past) key_of_part) ∙ ap length (spoken_keys X past)

module _ {X Y : End} {talk : Talk} {cursor : End → ℕ} {past : List PastFrame} {x : Side} where
  -- what was said is more than all messages before the last one
  said_most : {count : ℕ} → count_messages X talk ≡ count → Speech X Y talk cursor past x
      → pieces_before (messages_of X talk) (count - 1) ≤ length (said X past) - 1
  said_most is speech = search rules

  pub took_of : {cx : ℕ} (fx : Bool) → Speech X Y talk cursor past x → HeardOf X past cx fx x → TookMessages X talk past cx
  took_of false speech was = record {
    rest = unsaid x;
    is = ap (λ ps. reverse ps ++ unsaid x) was ∙ speech.says;
    most = omega (arith, said_most refl speech, ap length was, length-spoken X past);
  }
  took_of {cx} true speech was = record {
    rest = part_of_now x ∷ unsaid x;
    is = sym (append_assoc (reverse (heard X (at cx past))) (part_of_now x ∷ []) (unsaid x))
        ∙ (ap (λ ps. ps ++ unsaid x) (sym (ap (λ ps. reverse ps) was ∙ reverse-append (part_of_now x ∷ []) (heard X (at cx past)))) ∙ speech.says);
    most = omega (arith, said_most refl speech, ap length was, length-spoken X past);
  }

  -- where another message was to begin, and all was taken
  pub took_more : {cx : ℕ} (message : List ℕ) → Speech X Y talk cursor past x → left x ≡ 0 → HeardOf X past cx false x
      → TookMessages X (say X message talk) past cx
  took_more {cx} message speech none was =
      let old = took_of false speech was in
      let count = count-say X message talk in
      let before : count_messages X (say X message talk) - 1 ≡ count_messages X talk = omega (arith, count) in
      record {
        rest = old.rest ++ message_parts (session_id (count_messages X talk)) message;
        is = sym (append_assoc (reverse (heard X (at cx past))) old.rest (message_parts (session_id (count_messages X talk)) message))
            ∙ (ap (λ ps. ps ++ message_parts (session_id (count_messages X talk)) message) old.is ∙ sym (parts-say X message talk));
        most = omega (
          arith,
          ap (pieces_before (messages_of X (say X message talk))) before,
          (longer-say X message talk).stays X (count_messages X talk) (omega arith),
          speech.begun,
          none,
          ap length was,
          length-spoken X past,
        );
      }

-- where one of the other end was
pub took_beside : {X : End} (Y : End) {talk : Talk} {past : List PastFrame} {cx : ℕ} (message : List ℕ) → is_end X Y ≡ false → TookMessages X talk past cx
    → TookMessages X (say Y message talk) past cx
took_beside Y message apart was = search rules
