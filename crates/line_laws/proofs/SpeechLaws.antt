-- What an end sent, over each kind of step.
use Rattle.line_laws.proofs.Names.{rules, ◌≡◌, ◌⊎◌, ℕ, ◌+◌, ◌-◌, ◌<◌, ◌≤◌, Bool, true, false, List, ◌∷◌, ◌++◌, length, sym, ap, subst, ◌∙◌, arith, inl, inr}
use Rattle.line_laws.proofs.Names.{reverse, cases_lt, both_ways, cond-false, append-nil, session_id, piece_count, data_comes, IsHeldIn, spoken, message_parts}
use Rattle.line_laws.proofs.Names.{session_parts, PastFrame, is_end, first, said, acked, at, is_data_of, is_repeat, run, Reaches, AcksNewest, AnswersNewest, IsKnown}
use Rattle.line_laws.proofs.Names.{IfAnswers, AnswersReached, BeginInTurn, is_ack_of, Talk, messages_of, pieces_before, answered_by, End, came_by, data_taken}
use Rattle.line_laws.proofs.Names.{Side, left, part_at, unsaid, count_messages, say, TookNewest, Speech}
use Rattle.line_laws.proofs.PastLaws.{at_push}
use Rattle.line_laws.proofs.CameLaws.{Grows, came-push, came-moves, reaches-grows, known-grows, begins-grow, match-push, match-moves, match-taken, ten-run}
use Rattle.line_laws.proofs.UnsaidLaws.{unsaid-next, unsaid-first, unsaid-none, said-one, parts-say}
use Rattle.line_laws.proofs.MessageLaws.{some_pieces, pieces-grow, pieces-more, longer-say, count-say, pieces-say, messages-other, known-longer, begins-longer}
use Rattle.line_laws.proofs.MessageLaws.{new-says}

-- ---- a frame is pushed

pub held-back : {X : End} {n : ℕ} {frame : PastFrame} {past : List PastFrame} → n ≤ length past → IsHeldIn X n (frame ∷ past) → IsHeldIn X n past
held-back inside held = search rules

unfoldable pub reaches-push : (cursor : End → ℕ) (n : ℕ) (frame : PastFrame) (past : List PastFrame) → Reaches (came_by cursor past) n past
    → Reaches (came_by cursor (frame ∷ past)) n (frame ∷ past)
reaches-push cursor n frame past was = record {
  frame = was.frame;
  older = was.older;
  inside = omega (arith, was.inside);
  here = at_push frame past was.inside ∙ was.here;
  comes = came-push cursor frame past n was.inside was.comes;
  free = λ held. was.free (held-back was.inside held);
}

pub known-push : {X Y : End} {talk : Talk} (cursor : End → ℕ) {frame : PastFrame} {past : List PastFrame} → said X (frame ∷ past) ≡ said X past
    → IsKnown X Y talk (came_by cursor past) past → IsKnown X Y talk (came_by cursor (frame ∷ past)) (frame ∷ past)
unfolding reaches-push
known-push {X} {Y} {talk} cursor {frame} {past} same was =
    record { n = was.n; reaches = reaches-push cursor was.n frame past was.reaches; cause = go was.reaches.frame was.reaches.inside was.cause }
  where
    go : (it : PastFrame) → was.n ≤ length past → AcksNewest X Y past was.n it ⊎ AnswersNewest X Y talk past was.n it
        → AcksNewest X Y (frame ∷ past) was.n it ⊎ AnswersNewest X Y talk (frame ∷ past) was.n it
    go it inside (inl ack) = inl (record {
      is = ack.is;
      behind = ap (λ s. length (said X s)) (at_push frame past inside) ∙ (ack.behind ∙ sym (ap length same));
      key_is = ap first same ∙ ack.key_is;
    })
    go it inside (inr answer) = inr (record {
      number = answer.number;
      answer = answer.answer;
      asked = answer.asked;
      there = answer.there;
      answers = answer.answers;
      newest_ends = answer.newest_ends ∙ sym (ap length same);
      bears = record { is = answer.bears.is; number_is = ap (λ s. length (said Y s)) (at_push frame past inside) ∙ answer.bears.number_is };
    })

pub took-push : {X Y : End} (cursor : End → ℕ) {frame : PastFrame} {past : List PastFrame} → length (acked Y (frame ∷ past)) ≡ length (acked Y past)
    → TookNewest X Y (came_by cursor past) past → TookNewest X Y (came_by cursor (frame ∷ past)) (frame ∷ past)
unfolding reaches-push
took-push {X} cursor {frame} {past} same was = record {
  n = was.n;
  reaches = reaches-push cursor was.n frame past was.reaches;
  bears = record { is = was.bears.is; number_is = ap (λ s. length (said X s)) (at_push frame past was.reaches.inside) ∙ (was.bears.number_is ∙ sym same) };
}

pub took-grows : {X Y : End} {came later : ℕ → Bool} {past : List PastFrame} → Grows came later past → TookNewest X Y came past → TookNewest X Y later past
unfolding reaches-grows
took-grows {came} {later} {past} more was = record { n = was.n; reaches = reaches-grows came later was.n past more was.reaches; bears = was.bears }

-- where X begins nothing
begins-none : {X Y : End} {talk : Talk} (cursor : End → ℕ) (frame : PastFrame) {past : List PastFrame}
    → (is_data_of X frame ≡ true → is_repeat X frame past ≡ false → ⊥) → BeginInTurn X Y talk (came_by cursor past) past
    → BeginInTurn X Y talk (came_by cursor (frame ∷ past)) (frame ∷ past)
begins-none {X} {Y} {talk} cursor frame {past} none was =
    (λ is new. absurd (none is new), begins-grow X Y talk past (came-push cursor frame past) was)

-- where it begins a fragment
begins-one : {X Y : End} {talk : Talk} (cursor : End → ℕ) (frame : PastFrame) {past : List PastFrame}
    → (0 < length (said X past) → IsKnown X Y talk (came_by cursor past) past) → AnswersReached X talk (came_by cursor (frame ∷ past)) past
    → BeginInTurn X Y talk (came_by cursor past) past → BeginInTurn X Y talk (came_by cursor (frame ∷ past)) (frame ∷ past)
begins-one {X} {Y} {talk} cursor frame {past} known answers was = (
  λ is new. (λ some. known-grows (came-push cursor frame past) (known some), answers),
  begins-grow X Y talk past (came-push cursor frame past) was,
)

-- what was said stays
spoken_still : (X : End) (frame : PastFrame) (past : List PastFrame) (x : Side) (talk : Talk) → spoken X (frame ∷ past) ≡ spoken X past
    → reverse (spoken X past) ++ unsaid x ≡ session_parts 0 (messages_of X talk)
    → reverse (spoken X (frame ∷ past)) ++ unsaid x ≡ session_parts 0 (messages_of X talk)
spoken_still X frame past x talk same was = cc

-- ---- steps that begin nothing

module _ {X Y : End} {talk : Talk} {cursor : End → ℕ} {past : List PastFrame} {x : Side} where
  -- cursors move, and no data of X comes by that
  pub speech-moves : {later : End → ℕ} → ((Z : End) → cursor Z ≤ later Z)
      → data_taken X (at (later X) past) ≡ data_taken X (at (cursor X) past) → Speech X Y talk cursor past x → Speech X Y talk later past x
  speech-moves more same was =
      let grows = came-moves past more in
      record {
        begun = was.begun;
        current = was.current;
        says = was.says;
        begins = begins-grow X Y talk past grows was.begins;
        ten = was.ten;
        acks = match-moves X Y past more same was.acks;
        known = λ idle some. known-grows grows (was.known idle some);
        took = λ some. took-grows grows (was.took some);
      }

  -- a frame that is neither data of X nor an acknowledgement by Y
  pub speech-push : {frame : PastFrame} → is_data_of X frame ≡ false
      → is_ack_of Y frame ≡ false → said X (frame ∷ past) ≡ said X past → acked Y (frame ∷ past) ≡ acked Y past → run X (frame ∷ past) ≡ run X past
      → cursor X ≤ length past
      → Speech X Y talk cursor past x → Speech X Y talk cursor (frame ∷ past) x
  speech-push {frame} no_data no_ack same none runs inside was =
      let len = ap length same in
      let acks_len = ap length none in
      record {
        begun = omega (arith, was.begun, len);
        current = was.current;
        says = spoken_still X frame past x talk (cond-false _ _ _ no_data) was.says;
        begins = begins-none cursor frame (λ is new. both_ways _ no_data is) was.begins;
        ten = (omega (arith, runs, ten-run X past was.ten), was.ten);
        acks = match-push Y cursor frame past inside no_ack was.acks;
        known = λ idle some. known-push cursor same (was.known idle (omega (arith, some, len)));
        took = λ some. took-push cursor acks_len (was.took (omega (arith, some, acks_len)));
      }

  -- X sends its newest fragment again
  pub speech-again : {frame : PastFrame} → is_repeat X frame past ≡ true
      → is_ack_of Y frame ≡ false → said X (frame ∷ past) ≡ said X past → acked Y (frame ∷ past) ≡ acked Y past → run X (frame ∷ past) ≤ 10
      → spoken X (frame ∷ past) ≡ spoken X past → cursor X ≤ length past
      → Speech X Y talk cursor past x → Speech X Y talk cursor (frame ∷ past) x
  speech-again {frame} repeats no_ack same none few spoken_same inside was =
      let len = ap length same in
      let acks_len = ap length none in
      record {
        begun = omega (arith, was.begun, len);
        current = was.current;
        says = spoken_still X frame past x talk spoken_same was.says;
        begins = begins-none cursor frame (λ is new. both_ways _ new repeats) was.begins;
        ten = (few, was.ten);
        acks = match-push Y cursor frame past inside no_ack was.acks;
        known = λ idle some. known-push cursor same (was.known idle (omega (arith, some, len)));
        took = λ some. took-push cursor acks_len (was.took (omega (arith, some, acks_len)));
      }

  -- data of X is taken, and Y acknowledges it
  pub speech-taken : {later : End → ℕ} {ack : PastFrame} {cx : ℕ} {frame : PastFrame}
      → ((Z : End) → cursor Z ≤ later Z) → cursor X ≡ cx → later X ≡ cx + 1 → cx < length past
      → at (cx + 1) past ≡ frame ∷ at cx past → data_comes X frame ≡ true → frame.from ≡ X → is_ack_of Y ack ≡ true → ack.key ≡ frame.key
      → (IsHeldIn X (cx + 1) past → ⊥)
      → is_data_of X ack ≡ false → said X (ack ∷ past) ≡ said X past → run X (ack ∷ past) ≡ run X past
      → TookNewest X Y (came_by later (ack ∷ past)) (ack ∷ past) → Speech X Y talk cursor past x → Speech X Y talk later (ack ∷ past) x
  speech-taken {later} {ack} more is_cx is_later inside here comes mine is_ack key free no_data same runs took was =
      let len = ap length same in
      let grows = came-moves past more in
      record {
        begun = omega (arith, was.begun, len);
        current = was.current;
        says = spoken_still X ack past x talk (cond-false _ _ _ no_data) was.says;
        begins = begins-none later ack (λ is new. both_ways _ no_data is) (begins-grow X Y talk past grows was.begins);
        ten = (omega (arith, runs, ten-run X past was.ten), was.ten);
        acks = match-taken Y ack more is_cx is_later inside here comes mine is_ack key free was.acks;
        known = λ idle some. known-push later same (known-grows grows (was.known idle (omega (arith, some, len))));
        took = λ some. took;
      }

  -- X waits for nothing more, and knows that its newest fragment was taken
  pub speech-ends : {k : ℕ} → left x ≡ 0 → piece_count (length x.message) ≤ k
      → (0 < length (said X past) → IsKnown X Y talk (came_by cursor past) past) → Speech X Y talk cursor past x
      → Speech X Y talk cursor past (record x { acknowledged = k })
  speech-ends none idle known was = search rules

-- ---- steps that begin a fragment

-- no message begins in the middle of one
inside_message : (X : End) (talk : Talk) (came : ℕ → Bool) (past : List PastFrame) (x : Side)
    → length (said X past) + left x ≡ pieces_before (messages_of X talk) (count_messages X talk)
    → pieces_before (messages_of X talk) (count_messages X talk) ≡ pieces_before (messages_of X talk) (count_messages X talk - 1)
    + piece_count (length x.message)
    → 0 < left x → AnswersReached X talk came past
inside_message X talk came past x begun current more number less begins =
    absurd (omega (arith, begun, current, more, begins, pieces-grow (messages_of X talk) number (count_messages X talk - 1) (omega arith)))

-- the next piece of its message
pub speech-next : {X Y : End} {talk : Talk} {cursor : End → ℕ} {frame : PastFrame} {past : List PastFrame} {x : Side}
    → x.acknowledged + 1 < piece_count (length x.message) → is_data_of X frame ≡ true → is_repeat X frame past ≡ false → is_ack_of Y frame ≡ false
    → acked Y (frame ∷ past) ≡ acked Y past → run X (frame ∷ past) ≡ 1
    → spoken X (frame ∷ past) ≡ part_at x.id x.message (x.acknowledged + 1) ∷ spoken X past → cursor X ≤ length past
    → (0 < length (said X past) → IsKnown X Y talk (came_by cursor past) past) → 0 < count_messages X talk → Speech X Y talk cursor past x
    → Speech X Y talk cursor (frame ∷ past) (record x { acknowledged = x.acknowledged + 1 })
speech-next {X} {Y} {talk} {cursor} {frame} {past} {x} more is_data new no_ack none runs spoken_is inside known some_message was =
    let len = new-says X frame past is_data new in
    let acks_len = ap length none in
    record {
      begun = omega (arith, was.begun, len, more);
      current = was.current;
      says = ap (λ parts. reverse parts ++ unsaid (record x { acknowledged = x.acknowledged + 1 })) spoken_is
          ∙ (said-one (part_at x.id x.message (x.acknowledged + 1)) (spoken X past) (unsaid (record x { acknowledged = x.acknowledged + 1 }))
          ∙ (ap (λ rest. reverse (spoken X past) ++ rest) (sym (unsaid-next x more)) ∙ was.says));
      begins = begins-one cursor frame known (inside_message X talk (came_by cursor (frame ∷ past)) past x was.begun (was.current some_message)
          (omega (arith, more))) was.begins;
      ten = (omega (arith, runs), was.ten);
      acks = match-push Y cursor frame past inside no_ack was.acks;
      known = λ idle some. absurd (idle more);
      took = λ some. took-push cursor acks_len (was.took (omega (arith, some, acks_len)));
    }

-- a message begins where all pieces before it were begun
first_piece : (X : End) (message : List ℕ) (talk : Talk) (came : ℕ → Bool) (past : List PastFrame)
    → length (said X past) ≡ pieces_before (messages_of X talk) (count_messages X talk)
    → IfAnswers (answered_by X (count_messages X talk)) (say X message talk) came past → AnswersReached X (say X message talk) came past
first_piece X message talk came past all answers number less begins = elim (cases_lt number (count_messages X talk)) [
  | inl old ↦ absurd (omega (
    arith,
    all,
    begins,
    (longer-say X message talk).stays X number (omega (arith, old)),
    pieces-more (messages_of X talk) number (count_messages X talk) old (omega arith),
  ))
  | inr added ↦
      let is : count_messages X talk ≡ number = omega (arith, less, added, count-say X message talk) in
      subst (λ k. IfAnswers (answered_by X k) (say X message talk) came past) is answers
]

-- X begins a message: it knows that its newest fragment was taken, and took what this message answers
pub speech-starts : {X Y : End} {talk : Talk} {cursor : End → ℕ} {frame : PastFrame} {past : List PastFrame} {x begun : Side} → left x ≡ 0
    → begun.acknowledged ≡ 0 → is_data_of X frame ≡ true → is_repeat X frame past ≡ false → is_ack_of Y frame ≡ false
    → acked Y (frame ∷ past) ≡ acked Y past → run X (frame ∷ past) ≡ 1 → spoken X (frame ∷ past) ≡ part_at begun.id begun.message 0 ∷ spoken X past
    → begun.id ≡ session_id (count_messages X talk) → cursor X ≤ length past
    → (0 < length (said X past) → IsKnown X Y talk (came_by cursor past) past)
    → IfAnswers (answered_by X (count_messages X talk)) (say X (begun.message) talk) (came_by cursor (frame ∷ past)) past
    → Speech X Y talk cursor past x → Speech X Y (say X (begun.message) talk) cursor (frame ∷ past) begun
speech-starts {X} {Y} {talk} {cursor} {frame} {past} {x} {begun} none first_one is_data new no_ack acks_none runs spoken_is id_is inside known answers was =
    let later = say X begun.message talk in
    let longer = longer-say X begun.message talk in
    let len = new-says X frame past is_data new in
    let acks_len = ap length acks_none in
    let all : length (said X past) ≡ pieces_before (messages_of X talk) (count_messages X talk) = omega (arith, was.begun, none) in
    let count = count-say X begun.message talk in
    let total : pieces_before (messages_of X later) (count_messages X later) ≡ pieces_before (messages_of X talk) (count_messages X talk)
    + piece_count (length begun.message) =
    ap (pieces_before (messages_of X later)) count ∙ pieces-say X begun.message talk in
    let before : pieces_before (messages_of X later) (count_messages X later - 1) ≡ pieces_before (messages_of X talk) (count_messages X talk) =
    (let k : count_messages X later - 1 ≡ count_messages X talk = omega (arith, count) in ap (pieces_before (messages_of X later)) k)
    ∙ longer.stays X (count_messages X talk) (omega arith) in
    record {
      begun = omega (arith, all, len, total, first_one, some_pieces (length begun.message));
      current = λ some. omega (arith, total, before);
      says = ap (λ parts. reverse parts ++ unsaid begun) spoken_is
          ∙ (said-one (part_at begun.id begun.message 0) (spoken X past) (unsaid begun)
          ∙ (ap (λ rest. reverse (spoken X past) ++ rest) (sym (unsaid-first begun first_one) ∙ ap (λ id. message_parts id begun.message) id_is)
          ∙ (ap (λ parts. parts ++ message_parts (session_id (count_messages X talk)) begun.message)
          (sym (append-nil (reverse (spoken X past))) ∙ (ap (λ rest. reverse (spoken X past) ++ rest) (sym (unsaid-none x none)) ∙ was.says))
          ∙ sym (parts-say X begun.message talk))));
      begins = begins-one cursor frame (λ some. known-longer longer (known some))
          (first_piece X begun.message talk (came_by cursor (frame ∷ past)) past all answers)
          (begins-longer X Y (came_by cursor past) past longer (omega (arith, all)) was.begins);
      ten = (omega (arith, runs), was.ten);
      acks = match-push Y cursor frame past inside no_ack was.acks;
      known = λ idle some. absurd (idle (omega (arith, first_one, some_pieces (length begun.message))));
      took = λ some. took-push cursor acks_len (was.took (omega (arith, some, acks_len)));
    }

-- the other end begins one
pub speech-longer : {X Y : End} {talk : Talk} {cursor : End → ℕ} {past : List PastFrame} {x : Side} (message : List ℕ) → is_end X Y ≡ false
    → Speech X Y talk cursor past x → Speech X Y (say Y message talk) cursor past x
speech-longer {X} {Y} {talk} {cursor} {past} {x} message apart was =
    let later = say Y message talk in
    let longer = longer-say Y message talk in
    let same = messages-other Y X message talk apart in
    record {
      begun = was.begun ∙ sym (ap (λ (ms : List (List ℕ)). pieces_before ms (length ms)) same);
      current = λ some. ap (λ (ms : List (List ℕ)). pieces_before ms (length ms)) same
          ∙ (was.current (omega (arith, some, ap (λ (ms : List (List ℕ)). length ms) same))
          ∙ sym (ap (λ (ms : List (List ℕ)). pieces_before ms (length ms - 1) + piece_count (length x.message)) same));
      says = was.says ∙ sym (ap (session_parts 0) same);
      begins = begins-longer X Y (came_by cursor past) past longer (omega (arith, was.begun)) was.begins;
      ten = was.ten;
      acks = was.acks;
      known = λ idle some. known-longer longer (was.known idle some);
      took = was.took;
    }
