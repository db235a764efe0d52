-- The messages of both ends over each step of a running line.
use Rattle.line_laws.proofs.Names.{rules, ◌≡◌, ℕ, ◌+◌, ◌-◌, ◌<◌, ◌≤◌, Bool, true, false, ◌&&◌, List, [], ◌∷◌, length, Some, refl, sym, ap, subst, ◌∙◌}
use Rattle.line_laws.proofs.Names.{arith, inl, inr, cases_lt, both_ways, and_parts, and_from, Key, Taken, session_id, piece_count, ReceiverValue}
use Rattle.line_laws.proofs.Names.{next_key_differs, comes, late_of, data_comes, IsHeldIn, FrameCourse, PastFrame, is_end, first, data_of, ack_of, said, acked, at}
use Rattle.line_laws.proofs.Names.{is_data_of, run, IsDataOf, IsAckOf, Reaches, AcksAreFor, IsKnown, EndReached, IfAnswers, is_ack_of, SpeaksProperly, Talk}
use Rattle.line_laws.proofs.Names.{messages_of, pieces_before, answered_by, answer_to, End, Handheld, Desktop, came_by, data_taken, Apart, Follows, Counts}
use Rattle.line_laws.proofs.Names.{Side, Waiting, key_now, part_now, data_frame, ack_frame, LineAt, left, unsaid, count_messages, say, TookNewest, Speech}
use Rattle.line_laws.proofs.Names.{TalkingAt, Moves}
use Rattle.line_laws.proofs.PastLaws.{at_push, said_ack, said_data, said_data-other, acked_data, acked_ack, acked_ack-other, add_first, first_is, keys_apart}
use Rattle.line_laws.proofs.PastLaws.{keys_below}
use Rattle.line_laws.proofs.CountLaws.{IsCopy, pending_data, follows-length}
use Rattle.line_laws.proofs.FaultLaws.{is_data-frame}
use Rattle.line_laws.proofs.TimeLaws.{ack_is_no_data}
use Rattle.line_laws.proofs.TraceLaws.{again_repeats, begun_no_repeat, release_moves, taken_not_held}
use Rattle.line_laws.proofs.TakeLaws.{Accepting, acknowledged, matched, beginning}
use Rattle.line_laws.proofs.JoinLaws.{run_again, run_begins, run_other}
use Rattle.line_laws.proofs.PartLaws.{spoken_begins, spoken_again}
use Rattle.line_laws.proofs.CameLaws.{answers-grow, came-push, came-moves, same_end, taken-passed, data_that_came-by}
use Rattle.line_laws.proofs.MessageLaws.{count-say, messages-other, longer-say, answers-longer}
use Rattle.line_laws.proofs.SpeechLaws.{reaches-push, took-push, took-grows, speech-moves, speech-push, speech-again, speech-taken, speech-ends, speech-next}
use Rattle.line_laws.proofs.SpeechLaws.{speech-starts, speech-longer}
use Rattle.line_laws.proofs.RunningLaws.{ack_no_data}

-- ---- what the steps share

pub moves-more : {X Y : End} {cursor later : End → ℕ} → is_end X Y ≡ false → Moves X Y cursor later → (Z : End) → cursor Z ≤ later Z
moves-more apart moves Z = search rules

ack-frame-is : (Y : End) (key : Key) (course : FrameCourse) → is_ack_of Y (ack_frame Y key course) ≡ true
ack-frame-is Handheld key course = refl
ack-frame-is Desktop key course = refl

ack-frame-other : (X Y : End) (key : Key) (course : FrameCourse) → is_end X Y ≡ false → is_ack_of X (ack_frame Y key course) ≡ false
ack-frame-other X Y key course apart = ap (λ b. b && true) apart

data-frame-no_ack : (X Y : End) (key : Key) (bytes : List ℕ) (course : FrameCourse) → is_ack_of X (data_frame Y key bytes course) ≡ false
data-frame-no_ack Handheld Handheld key bytes course = refl
data-frame-no_ack Handheld Desktop key bytes course = refl
data-frame-no_ack Desktop Handheld key bytes course = refl
data-frame-no_ack Desktop Desktop key bytes course = refl

data-frame-other : (X Y : End) (key : Key) (bytes : List ℕ) (course : FrameCourse) → is_end Y X ≡ false → is_data_of Y (data_frame X key bytes course) ≡ false
data-frame-other X Y key bytes course apart = ap (λ b. b && true) apart

-- the frame that is taken reached this time
taken-reaches : {X : End} (cursor : End → ℕ) {past : List PastFrame} {cx : ℕ} {frame : PastFrame} → cursor X ≡ cx + 1 → cx < length past
    → at (cx + 1) past ≡ frame ∷ at cx past → is_end X frame.from ≡ true → comes frame.course ≡ true → (IsHeldIn X (cx + 1) past → ⊥)
    → Reaches (came_by cursor past) (cx + 1) past
taken-reaches cursor is_cx inside here mine comes_here free = search rules

-- the newest fragment of X is the one that is accepted
newest_at : {X Y : End} {past : List PastFrame} {fx : Bool} {cx : ℕ} {frame : PastFrame} → Counts X Y past fx cx → cx < length past
    → at (cx + 1) past ≡ frame ∷ at cx past → IsDataOf X frame → first (said X past) ≡ Some (frame.key)
    → length (said X (at (cx + 1) past)) ≡ length (said X past)
newest_at {X} {Y} {past} {fx} {cx} {frame} counts inside here is key = elim (pending_data fx counts (omega arith) (omega (arith, inside)) here is) [
  | inl copy ↦ go fx counts.follows copy
  | inr newest ↦ newest.newest
] where
  go : (fresh : Bool) → Follows (said X past) (acked Y past) fresh → IsCopy X Y frame (cx + 1) past → length (said X (at (cx + 1) past)) ≡ length (said X past)
  go true follows copy = absurd (keys_apart (data_of X) past follows.1 (copy.key ∙ sym (sym (ap first follows.1) ∙ key)))
  go false follows copy = copy.old ∙ sym (ap length follows)

some_said : (X : End) (past : List PastFrame) {key : Key} → first (said X past) ≡ Some key → 0 < length (said X past)
some_said X past newest_is = search rules

module _ {Y : End} {talk : Talk} {cursor : End → ℕ} {past : List PastFrame} where
  -- an end that said something began a message
  some_message : {X : End} {x : Side} → Speech X Y talk cursor past x → 0 < length (said X past)
      → 0 < count_messages X talk
  some_message speech some = search rules

  -- ---- passing

  -- a frame of X is passed that is no data which comes
  pub talking_passes : {X : End} {later : End → ℕ} {cx : ℕ} {x y : Side} {fx fy : Bool} {frame : PastFrame}
      → Apart X Y → cursor X ≡ cx → Moves X Y cursor later → at (cx + 1) past ≡ frame ∷ at cx past → data_comes X frame ≡ false
      → TalkingAt X Y talk cursor past x y fx fy → TalkingAt X Y talk later past x y fx fy
  talking_passes {X} {later} {cx} apart is_cx moves here other was =
      let more = moves-more apart.there moves in
      let moved : later X ≡ cx + 1 = omega (arith, moves.moved, is_cx) in
      record {
        x_speech = speech-moves more (ap (λ k. data_taken X (at k past)) moved
            ∙ (taken-passed X past cx here other ∙ ap (λ k. data_taken X (at k past)) (sym is_cx))) was.x_speech;
        y_speech = speech-moves more (ap (λ k. data_taken Y (at k past)) moves.kept) was.y_speech;
        x_answers = was.x_answers;
        y_answers = was.y_answers;
      }

  -- ---- data is taken

  -- Y's speech, where Y acknowledges data of X
  acked_other : {X : End} {later : End → ℕ} {y : Side} {key : Key} {course : FrameCourse} → Apart X Y
      → Moves X Y cursor later → cursor Y ≤ length past → Speech Y X talk cursor past y → Speech Y X talk later (ack_frame Y key course ∷ past) y
  acked_other {X} {key} {course} apart moves inside was =
      let no_data = ack_is_no_data Y Y key course in
      speech-push no_data (ack-frame-other X Y key course apart.there) (said_ack Y Y key course past) (acked_ack-other Y X apart.there key course past)
      (run_other Y (ack_frame Y key course) past no_data) (omega (arith, inside, moves.kept))
      (speech-moves (moves-more apart.there moves) (ap (λ k. data_taken Y (at k past)) moves.kept) was)

  -- a copy
  pub talking_copy : {X : End} {later : End → ℕ} {cx cy released : ℕ} {x y : Side} {rx ry : ReceiverValue} {fx fy : Bool} {tx ty : ℕ}
      {course : FrameCourse} {frame : PastFrame}
      → Apart X Y → LineAt X Y past cx cy released x y rx ry fx fy tx ty
      → cx < length past → at (cx + 1) past ≡ frame ∷ at cx past → (late_of X frame ≡ true → cx + 1 ≤ released) → IsDataOf X frame
      → comes frame.course ≡ true → IsCopy X Y frame (cx + 1) past
      → cursor X ≡ cx → cursor Y ≡ cy → Moves X Y cursor later → TalkingAt X Y talk cursor past x y fx fy
      → TalkingAt X Y talk later (ack_frame Y (frame.key) course ∷ past) x y fx fy
  talking_copy {X} {later} {cx} {course} {frame} apart line x_in here free is comes_here copy is_cx is_cy moves was =
      let ack = ack_frame Y frame.key course in
      let more = moves-more apart.there moves in
      let moved : later X ≡ cx + 1 = omega (arith, moves.moved, is_cx) in
      let mine = (and_parts (is_end X frame.from) _ is).0 in
      let no_data = ack_is_no_data X Y frame.key course in
      let unheld : IsHeldIn X (cx + 1) past → ⊥ =
      λ held. taken_not_held (release_moves line.traced.x_release here x_in free) (omega (arith, x_in)) (omega arith) held in
      let same : acked Y (ack_frame Y frame.key course ∷ past) ≡ acked Y past = acked_ack Y frame.key course past ∙ add_first copy.key in
      let some : 0 < length (acked Y past) = (let f = first_is (acked Y past) copy.key in omega (arith, ap length f.1)) in
      let took = took-push later (ap length same) (took-grows (came-moves past more) (was.x_speech.took some)) in
      record {
        x_speech = speech-taken more is_cx moved x_in here (and_from (is_data_of X frame) (comes frame.course) is comes_here) (same_end X frame.from mine)
            (ack-frame-is Y frame.key course) refl unheld
            no_data (said_ack Y X frame.key course past) (run_other X (ack_frame Y frame.key course) past no_data) took was.x_speech;
        y_speech = acked_other apart moves (omega (arith, is_cy, line.core.back.cur_in)) was.y_speech;
        x_answers = was.x_answers;
        y_answers = was.y_answers;
      }

-- the frame that is taken reached what is sent behind the acknowledgement
reached-now : {X : End} (cursor : End → ℕ) {ack : PastFrame} {past : List PastFrame} {cx : ℕ} {frame : PastFrame} → cursor X ≡ cx + 1 → cx < length past
    → at (cx + 1) past ≡ frame ∷ at cx past → is_end X frame.from ≡ true → comes frame.course ≡ true → (IsHeldIn X (cx + 1) past → ⊥)
    → (reaches : Reaches (came_by cursor (ack ∷ past)) (cx + 1) (ack ∷ past)) × (reaches.frame ≡ frame)
unfolding taken-reaches reaches-push
reached-now cursor {ack} {past} {cx} is_cx inside here mine comes_here free =
    (reaches-push cursor (cx + 1) ack past (taken-reaches cursor is_cx inside here mine comes_here free), refl)

module _ {X Y : End} {came : ℕ → Bool} {past : List PastFrame} {n : ℕ} {frame : PastFrame} where
  took-newest : (reached : (reaches : Reaches came n past) × (reaches.frame ≡ frame))
      → IsDataOf X frame → length (said X (at n past)) ≡ length (acked Y past) → TookNewest X Y came past
  took-newest reached is number =
      record { n = n; reaches = reached.0; bears = record { is = subst (λ f. IsDataOf X f) (sym reached.1) is; number_is = number } }

  known_by_answer : {talk : Talk} (reached : (reaches : Reaches came n past) × (reaches.frame ≡ frame))
      → IsDataOf Y frame → 0 < count_messages X talk → 0 < count_messages Y talk
      → answer_to X (count_messages X talk - 1) ≡ Some (count_messages Y talk - 1)
      → pieces_before (messages_of X talk) (count_messages X talk) ≡ length (said X past)
      → length (said Y (at n past)) ≡ pieces_before (messages_of Y talk) (count_messages Y talk - 1) + 1 → IsKnown X Y talk came past
  known_by_answer {talk} reached is x_some y_some answers ends number = record {
    n = n;
    reaches = reached.0;
    cause = inr (record {
      number = count_messages X talk - 1;
      answer = count_messages Y talk - 1;
      asked = omega (arith, x_some);
      there = omega (arith, y_some);
      answers = answers;
      newest_ends =
          (let last : count_messages X talk - 1 + 1 ≡ count_messages X talk = omega (arith, x_some) in ap (pieces_before (messages_of X talk)) last) ∙ ends;
      bears = record { is = subst (λ f. IsDataOf Y f) (sym reached.1) is; number_is = number };
    });
  }

  known_by_its_ack : {talk : Talk} (reached : (reaches : Reaches came n past) × (reaches.frame ≡ frame))
      → IsAckOf Y frame → length (said X (at n past)) ≡ length (said X past) → first (said X past) ≡ Some (frame.key) → IsKnown X Y talk came past
  known_by_its_ack reached is behind key = record {
    n = n;
    reaches = reached.0;
    cause = inl (record { is = subst (λ f. IsAckOf Y f) (sym reached.1) is; behind = behind; key_is = key ∙ ap (λ f. Some f.key) (sym reached.1) });
  }

-- the newest fragment: where Y waits, this frame tells it that its message was taken
pub talking_newest : {X Y : End} {talk : Talk} {cursor later : End → ℕ} {past : List PastFrame} {cx cy released : ℕ} {x y : Side} {rx ry : ReceiverValue}
    {fx fy : Bool} {tx ty k : ℕ} {course : FrameCourse} {frame : PastFrame} {answer : Taken} {whole : Bool}
    → Apart X Y → LineAt X Y past cx cy released x y rx ry fx fy tx ty
    → cx < length past → at (cx + 1) past ≡ frame ∷ at cx past → (late_of X frame ≡ true → cx + 1 ≤ released) → IsDataOf X frame
    → comes frame.course ≡ true → Accepting X Y past cy (cx + 1) x y rx ry (frame.key) (frame.bytes) answer whole → piece_count (length y.message) ≤ k
    → cursor X ≡ cx → cursor Y ≡ cy → Moves X Y cursor later → TalkingAt X Y talk cursor past x y fx fy
    → TalkingAt X Y talk later (ack_frame Y (frame.key) course ∷ past) x (record y { acknowledged = k }) false false
talking_newest {X} {Y} {talk} {later} {past} {cx} {y} {fx} {k} {course} {frame} apart line x_in here free is comes_here accepting idle is_cx is_cy moves was =
    let more = moves-more apart.there moves in
    let moved : later X ≡ cx + 1 = omega (arith, moves.moved, is_cx) in
    let mine = (and_parts (is_end X frame.from) _ is).0 in
    let no_data = ack_is_no_data X Y frame.key course in
    let unheld : IsHeldIn X (cx + 1) past → ⊥ =
    λ held. taken_not_held (release_moves line.traced.x_release here x_in free) (omega (arith, x_in)) (omega arith) held in
    let newest_is : first (said X past) ≡ Some frame.key = line.core.x_speaks.newest accepting.waits ∙ ap Some (sym accepting.key_is) in
    let now = reached-now later moved x_in here mine comes_here unheld in
    let same = ap length (said_ack Y X frame.key course past) in
    let same_y = ap length (said_ack Y Y frame.key course past) in
    let number : length (said X (at (cx + 1) (ack_frame Y frame.key course ∷ past))) ≡ length (said X past) =
    ap (λ s. length (said X s)) (at_push (ack_frame Y frame.key course) past (omega (arith, x_in))) ∙ newest_at line.core.there x_in here is newest_is in
    let after = accepting.core k course idle in
    let follows = ap length after.there.follows in
    let took = took-newest now is (number ∙ (sym same ∙ follows)) in
    let pushed = acked_other apart moves (omega (arith, is_cy, line.core.back.cur_in)) was.y_speech in
    let all_begun : left y ≡ 0 = elim (cases_lt y.acknowledged (piece_count (length y.message))) [
      | inl waits ↦ omega (arith, (accepting.answers waits).1)
      | inr none ↦ omega (arith, none)
    ] in
    let known : 0 < length (said Y (ack_frame Y frame.key course ∷ past))
    → IsKnown Y X talk (came_by later (ack_frame Y frame.key course ∷ past)) (ack_frame Y frame.key course ∷ past) =
    λ some. elim (cases_lt y.acknowledged (piece_count (length y.message))) [
      | inl waits ↦ by_answer waits number now (is_fresh waits)
      | inr none ↦ pushed.known (λ w. omega (arith, w, none)) some
    ] in
    record {
      x_speech = speech-taken more is_cx moved x_in here (and_from (is_data_of X frame) (comes frame.course) is comes_here) (same_end X frame.from mine)
          (ack-frame-is Y frame.key course) refl unheld
          no_data (said_ack Y X frame.key course past) (run_other X (ack_frame Y frame.key course) past no_data) took was.x_speech;
      y_speech = speech-ends all_begun idle known pushed;
      x_answers = λ fresh. absurd (both_ways _ refl fresh);
      y_answers = λ fresh. absurd (both_ways _ refl fresh);
    } where
      is_fresh : Waiting y → fx ≡ true
      is_fresh waits = elim (line.core.both accepting.waits waits) [
        | inl a ↦ a.is_fresh
        | inr a ↦ absurd (omega (
          arith,
          follows-length _ _ true (subst (Follows (said Y past) (acked X past)) a.is_fresh line.core.back.follows),
          accepting.knows,
          keys_below (ack_of X) (cx + 1) past,
        ))
      ]

      by_answer : Waiting y → length (said X (at (cx + 1) (ack_frame Y frame.key course ∷ past))) ≡ length (said X past)
          → (reaches : Reaches (came_by later (ack_frame Y frame.key course ∷ past)) (cx + 1) (ack_frame Y frame.key course ∷ past)) × (reaches.frame ≡ frame)
          → fx ≡ true
          → IsKnown Y X talk (came_by later (ack_frame Y frame.key course ∷ past)) (ack_frame Y frame.key course ∷ past)
      by_answer waits number now fresh =
          let turn = was.x_answers fresh ((accepting.answers waits).0) waits in
          let current = was.x_speech.current turn.0 in
          let same_y = ap length (said_ack Y Y frame.key course past) in
          known_by_answer now is turn.1 turn.0 turn.2
          (omega (arith, was.y_speech.begun, (accepting.answers waits).1, same_y))
          (omega (arith, number, was.x_speech.begun, current, (accepting.answers waits).0, accepting.waits))

-- ---- acknowledgements

module _ {X Y : End} {talk : Talk} {past : List PastFrame} {cx cy released : ℕ} {x y : Side} {rx ry : ReceiverValue} {tx ty : ℕ} where
  -- the acknowledgement of the waiting piece of Y tells it that this was taken
  known_now : (later : End → ℕ) {fx fy : Bool} {frame : PastFrame}
      → LineAt X Y past cx cy released x y rx ry fx fy tx ty
      → cx < length past → at (cx + 1) past ≡ frame ∷ at cx past → (late_of X frame ≡ true → cx + 1 ≤ released) → IsAckOf X frame
      → comes frame.course ≡ true → Waiting y → key_now y ≡ frame.key → later X ≡ cx + 1 → IsKnown Y X talk (came_by later past) past
  unfolding taken-reaches
  known_now later {frame} line x_in here free is comes_here waits key moved =
      let mine = (and_parts (is_end X frame.from) _ is).0 in
      let m = matched line.core (omega arith) (omega (arith, x_in)) here is waits key in
      let unheld : IsHeldIn X (cx + 1) past → ⊥ =
      λ held. taken_not_held (release_moves line.traced.x_release here x_in free) (omega (arith, x_in)) (omega arith) held in
      known_by_its_ack (taken-reaches later moved x_in here mine comes_here unheld, refl) is
      (omega (arith, m.knows, line.traced.y_behind (cx + 1) (omega (arith, x_in)), keys_below (data_of Y) (cx + 1) past))
      (line.core.y_speaks.newest waits ∙ ap Some key)

  -- of its last piece
  pub talking_last_ack : {cursor later : End → ℕ} {fx fy : Bool} {frame : PastFrame}
      → Apart X Y → LineAt X Y past cx cy released x y rx ry fx fy tx ty
      → cx < length past → at (cx + 1) past ≡ frame ∷ at cx past → (late_of X frame ≡ true → cx + 1 ≤ released) → IsAckOf X frame
      → comes frame.course ≡ true → Waiting y → key_now y ≡ frame.key → y.acknowledged + 1 ≡ piece_count (length y.message)
      → cursor X ≡ cx → Moves X Y cursor later → TalkingAt X Y talk cursor past x y fx fy → TalkingAt X Y talk later past x (acknowledged y) fx false
  talking_last_ack {later} {frame} apart line x_in here free is comes_here waits key last is_cx moves was =
      let passed = talking_passes apart is_cx moves here (ack_no_data X frame is) was in
      let known = known_now later line x_in here free is comes_here waits key (omega (arith, moves.moved, is_cx)) in
      record {
        x_speech = passed.x_speech;
        y_speech = speech-ends (omega (arith, last)) (omega (arith, last)) (λ some. known) passed.y_speech;
        x_answers = λ fresh first_one w. absurd (omega (arith, w, last));
        y_answers = λ fresh. absurd (both_ways _ refl fresh);
      }

  -- of another piece: the next one goes
  pub talking_next_piece : {cursor later : End → ℕ} {fx fy : Bool} {frame : PastFrame} {course : FrameCourse}
      → Apart X Y → LineAt X Y past cx cy released x y rx ry fx fy tx ty
      → cx < length past → at (cx + 1) past ≡ frame ∷ at cx past → (late_of X frame ≡ true → cx + 1 ≤ released) → IsAckOf X frame
      → comes frame.course ≡ true → Waiting y → key_now y ≡ frame.key → y.acknowledged + 1 < piece_count (length y.message)
      → cursor X ≡ cx → cursor Y ≡ cy → Moves X Y cursor later → TalkingAt X Y talk cursor past x y fx fy
      → TalkingAt X Y talk later (data_frame Y (key_now (acknowledged y)) ((part_now (acknowledged y)).bytes) course ∷ past) x (acknowledged y) false true
  talking_next_piece {later} {frame} {course} apart line x_in here free is comes_here waits key more is_cx is_cy moves was =
      let next = key_now (acknowledged y) in
      let bytes = (part_now (acknowledged y)).bytes in
      let passed = talking_passes apart is_cx moves here (ack_no_data X frame is) was in
      let known = known_now later line x_in here free is comes_here waits key (omega (arith, moves.moved, is_cx)) in
      let newest_is = line.core.y_speaks.newest waits in
      let new : first (said Y past) ≡ Some (key_now (acknowledged y)) → ⊥ = λ same.
      (let e : Some (key_now y) ≡ Some (key_now (acknowledged y)) = sym newest_is ∙ same in
      next_key_differs y.id (length y.message) y.acknowledged (let k : key_now y ≡ key_now (acknowledged y) = cc in k)) in
      let no_data = data-frame-other Y X next bytes course apart.there in
      record {
        x_speech = speech-push no_data (data-frame-no_ack Y Y next bytes course) (said_data-other Y X apart.there next bytes course past)
            (acked_data Y Y next bytes course past) (run_other X (data_frame Y next bytes course) past no_data)
            (omega (arith, moves.moved, is_cx, x_in)) passed.x_speech;
        y_speech = speech-next more (is_data-frame Y next bytes course) (begun_no_repeat Y bytes course past new) (data-frame-no_ack X Y next bytes course)
            (acked_data Y X next bytes course past) (run_begins Y bytes course past new) (spoken_begins Y course past new)
            (omega (arith, moves.kept, is_cy, line.core.back.cur_in)) (λ some. known) (some_message was.y_speech (some_said Y past newest_is)) passed.y_speech;
        x_answers = λ fresh. absurd (both_ways _ refl fresh);
        y_answers = λ fresh first_one. absurd (omega (arith, first_one));
      }

  -- ---- a new message

  pub talking_starts : {cursor : End → ℕ} {id : ℕ} {message : List ℕ} {course : FrameCourse}
      → Apart X Y → LineAt X Y past cx cy released x y rx ry false false tx ty → (Waiting x → ⊥) → (id ≡ x.id → ⊥)
      → id ≡ session_id (count_messages X talk)
      → IfAnswers (answered_by X (count_messages X talk)) talk (came_by cursor past) past
      → (Waiting y → (0 < count_messages Y talk) × (answer_to Y (count_messages Y talk - 1) ≡ Some (count_messages X talk)))
      → cursor X ≡ cx → cursor Y ≡ cy → TalkingAt X Y talk cursor past x y false false
      → TalkingAt X Y (say X message talk) cursor (data_frame X (key_now (beginning id message)) ((part_now (beginning id message)).bytes) course ∷ past)
      (beginning id message) y true false
  talking_starts {cursor} {id} {message} {course} apart line idle other id_is answers turn is_cx is_cy was =
      let key = key_now (beginning id message) in
      let bytes = (part_now (beginning id message)).bytes in
      let frame = data_frame X key bytes course in
      let new : first (said X past) ≡ Some (key_now (beginning id message)) → ⊥ = λ same. other (line.core.x_speaks.newest_id _ same) in
      let no_data = data-frame-other X Y key bytes course apart.back in
      let none : left x ≡ 0 = elim (cases_lt x.acknowledged (piece_count (length x.message))) [ inl w ↦ absurd (idle w) | inr done ↦ omega (arith, done) ] in
      let grown = answers-grow (answered_by X (count_messages X talk)) (say X message talk) past (came-push cursor frame past)
      (answers-longer (answered_by X (count_messages X talk)) (came_by cursor past) past (longer-say X message talk) answers) in
      let other_count : count_messages Y (say X message talk) ≡ count_messages Y talk =
      ap (λ (ms : List (List ℕ)). length ms) (messages-other X Y message talk apart.back) in
      record {
        x_speech = speech-starts none refl (is_data-frame X key bytes course) (begun_no_repeat X bytes course past new) (data-frame-no_ack Y X key bytes course)
            (acked_data X Y key bytes course past) (run_begins X bytes course past new) (spoken_begins X course past new) id_is
            (omega (arith, is_cx, line.core.there.cur_in)) (was.x_speech.known idle) grown was.x_speech;
        y_speech = speech-push no_data (data-frame-no_ack X X key bytes course) (said_data-other X Y apart.back key bytes course past)
            (acked_data X X key bytes course past) (run_other Y frame past no_data) (omega (arith, is_cy, line.core.back.cur_in))
            (speech-longer message apart.back was.y_speech);
        x_answers = λ fresh first_one w. (
          omega (arith, count-say X message talk),
          omega (arith, (turn w).0, other_count),
          ap (λ k. answer_to Y (k - 1)) other_count ∙ ((turn w).1
              ∙ (let last : count_messages X talk ≡ count_messages X (say X message talk) - 1 = omega (arith, count-say X message talk) in ap Some last)),
        );
        y_answers = λ fresh. absurd (both_ways _ refl fresh);
      }

-- an end whose message was taken whole: its last fragment reached this time
module _ {X Y : End} {talk : Talk} {cursor : End → ℕ} {past : List PastFrame} {x : Side} where
  pub end_taken : Speech X Y talk cursor past x → left x ≡ 0
      → said X past ≡ acked Y past → 0 < count_messages X talk → 0 < length (said X past)
      → EndReached (record { end = X; number = count_messages X talk - 1 }) talk (came_by cursor past) past
  end_taken speech none same some some_piece =
      let len = ap length same in
      let took = speech.took (omega (arith, some_piece, len)) in
      let last : count_messages X talk - 1 + 1 ≡ count_messages X talk = omega (arith, some) in
      record {
        n = took.n;
        reaches = took.reaches;
        there = omega (arith, some);
        bears = record {
          is = took.bears.is;
          number_is = took.bears.number_is
              ∙ omega (arith, len, speech.begun, none, ap (pieces_before (messages_of X talk)) last);
        };
      }

  -- ---- the tick

  talking_again : {y : Side} {fx fy : Bool} {key : Key} {bytes : List ℕ} {course : FrameCourse}
      → Apart X Y → first (said X past) ≡ Some key → run X past < 10 → cursor X ≤ length past → cursor Y ≤ length past
      → TalkingAt X Y talk cursor past x y fx fy → TalkingAt X Y talk cursor (data_frame X key bytes course ∷ past) x y fx fy
  talking_again {key} {bytes} {course} apart newest_is few x_in y_in was =
      let no_data = data-frame-other X Y key bytes course apart.back in
      record {
        x_speech = speech-again (again_repeats X bytes course past newest_is) (data-frame-no_ack Y X key bytes course)
            (said_data X key bytes course past ∙ add_first newest_is) (acked_data X Y key bytes course past)
            (omega (arith, run_again X bytes course past newest_is, few)) (spoken_again X bytes course past newest_is) x_in was.x_speech;
        y_speech = speech-push no_data (data-frame-no_ack X X key bytes course) (said_data-other X Y apart.back key bytes course past)
            (acked_data X X key bytes course past) (run_other Y (data_frame X key bytes course) past no_data) y_in was.y_speech;
        x_answers = was.x_answers;
        y_answers = was.y_answers;
      }

  pub talking_turned : {y : Side} {fx fy : Bool}
      → TalkingAt X Y talk cursor past x y fx fy → TalkingAt Y X talk cursor past y x fy fx
  talking_turned was = search rules

-- where X alone waits
module _ {X Y : End} {talk : Talk} {cursor : End → ℕ} {past : List PastFrame} {cx cy released : ℕ} {x y : Side} {rx ry : ReceiverValue} {fx fy : Bool}
    {tx ty : ℕ} {course : FrameCourse} where
  pub talking_tick_one : Apart X Y → LineAt X Y past cx cy released x y rx ry fx fy tx ty → Waiting x → tx < 10 → cursor X ≡ cx → cursor Y ≡ cy
      → TalkingAt X Y talk cursor past x y fx fy → TalkingAt X Y talk cursor (data_frame X (key_now x) ((part_now x).bytes) course ∷ past) x y fx fy
  talking_tick_one apart line waits few is_cx is_cy was =
      talking_again apart (line.core.x_speaks.newest waits) (omega (arith, line.x_knows.run_is waits, few)) (omega (arith, is_cx, line.core.there.cur_in))
      (omega (arith, is_cy, line.core.back.cur_in)) was

  -- where both wait: X sends, then Y
  pub talking_tick_two : {other : FrameCourse}
      → Apart X Y → LineAt X Y past cx cy released x y rx ry fx fy tx ty → Waiting x → Waiting y → tx < 10 → ty < 10 → cursor X ≡ cx → cursor Y ≡ cy
      → TalkingAt X Y talk cursor past x y fx fy
      → TalkingAt X Y talk cursor (data_frame Y (key_now y) ((part_now y).bytes) other ∷ data_frame X (key_now x) ((part_now x).bytes) course ∷ past) x y fx fy
  talking_tick_two apart line wx wy few_x few_y is_cx is_cy was =
      let mid = data_frame X (key_now x) ((part_now x).bytes) course ∷ past in
      let one = talking_tick_one apart line wx few_x is_cx is_cy was in
      let still : first (said Y (data_frame X (key_now x) ((part_now x).bytes) course ∷ past)) ≡ Some (key_now y) =
      ap first (said_data-other X Y apart.back (key_now x) ((part_now x).bytes) course past) ∙ line.core.y_speaks.newest wy in
      let runs = run_other Y (data_frame X (key_now x) ((part_now x).bytes) course) past
      (data-frame-other X Y (key_now x) ((part_now x).bytes) course apart.back) in
      talking_turned
      (talking_again (record { there = apart.back; back = apart.there }) still (omega (arith, runs, line.y_knows.run_is wy, few_y))
      (omega (arith, is_cy, line.core.back.cur_in)) (omega (arith, is_cx, line.core.there.cur_in))
      (talking_turned one))

-- ---- the first state, and what follows for the trace

abbrev pub nothing_yet : Talk
nothing_yet = record { handheld = []; desktop = [] }

none_yet : (X : End) → (messages_of X nothing_yet) ≡ []
none_yet Handheld = refl
none_yet Desktop = refl

-- an end speaks properly
pub speaks_properly : {X Y : End} {talk : Talk} {cursor : End → ℕ} {past : List PastFrame} {x : Side} → cursor X ≤ length past
    → Speech X Y talk cursor past x → SpeaksProperly X Y talk (came_by cursor past) past
speaks_properly {Y} {cursor} {past} {x} inside speech = record {
  says = record { rest = unsaid x; is = speech.says };
  ten = speech.ten;
  begins = speech.begins;
  acked = inl (subst (AcksAreFor Y (came_by cursor past) past) (sym (data_that_came-by cursor past inside)) speech.acks);
}
