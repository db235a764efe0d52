-- A line that stopped: its trace is proper too. A frame that is unplugged, or found undetected, is sent like any other and stands last. Where a frame is
-- aborted
-- its place is taken by an abort, which says nothing: what was to be sent isn't said, and what was to be acknowledged isn't.
use Rattle.line_laws.proofs.Names.{common_steps, ◌≡◌, ℕ, ◌+◌, ◌<◌, ◌≤◌, Bool, true, false, List, [], ◌∷◌, ◌++◌, length, sym, ap, subst, ◌∙◌, arith, inr}
use Rattle.line_laws.proofs.Names.{reverse, cond-true, append_assoc, session_id, data_comes, came_in, spoken, message_parts, session_parts, PastFrame, is_end, said}
use Rattle.line_laws.proofs.Names.{at, AcksAreFor, SpeaksProperly, Talk, messages_of, pieces_before, FrameValue, End, came_by, data_taken, Side, unsaid}
use Rattle.line_laws.proofs.Names.{count_messages, say, Speech}
use Rattle.line_laws.proofs.CameLaws.{Grows, begins-grow, acks-grow, came-moves, data_that_came-taken}
use Rattle.line_laws.proofs.MessageLaws.{longer-say, messages-other, begins-longer}
use Rattle.line_laws.proofs.UnsaidLaws.{parts-say}
use Rattle.line_laws.proofs.FramingLaws.{IsByCursor, grows-by}

-- a message that an end was to begin
pub speaks-more : {X Y : End} {talk : Talk} {came : ℕ → Bool} {past : List PastFrame} (message : List ℕ)
    → length (said X past) ≤ pieces_before (messages_of X talk) (count_messages X talk) → SpeaksProperly X Y talk came past
    → SpeaksProperly X Y (say X message talk) came past
speaks-more {X} {Y} {talk} {came} {past} message most was = record {
  says = record {
    rest = was.says.rest ++ message_parts (session_id (count_messages X talk)) message;
    is = sym (append_assoc (reverse (spoken X past)) was.says.rest (message_parts (session_id (count_messages X talk)) message))
        ∙ (ap (λ parts. parts ++ message_parts (session_id (count_messages X talk)) message) was.says.is ∙ sym (parts-say X message talk));
  };
  ten = was.ten;
  begins = begins-longer X Y came past (longer-say X message talk) most was.begins;
  acked = was.acked;
}

pub speaks-beside : {X Y : End} {talk : Talk} {came : ℕ → Bool} {past : List PastFrame} (message : List ℕ) → is_end X Y ≡ false
    → length (said X past) ≤ pieces_before (messages_of X talk) (count_messages X talk) → SpeaksProperly X Y talk came past
    → SpeaksProperly X Y (say Y message talk) came past
speaks-beside {X} {Y} {talk} {came} {past} message apart most was = record {
  says = record { rest = was.says.rest; is = was.says.is ∙ sym (ap (session_parts 0) (messages-other Y X message talk apart)) };
  ten = was.ten;
  begins = begins-longer X Y came past (longer-say Y message talk) most was.begins;
  acked = was.acked;
}

-- data of X that was taken and was to be acknowledged
pub speaks-unacked : {X Y : End} {talk : Talk} {cursor later : End → ℕ} {came : ℕ → Bool} {past : List PastFrame} {cx : ℕ} {frame : PastFrame} {x : Side}
    → ((Z : End) → cursor Z ≤ later Z) → cursor X ≡ cx → later X ≡ cx + 1 → cx < length past → at (cx + 1) past ≡ frame ∷ at cx past
    → data_comes X frame ≡ true
    → IsByCursor later came past → Speech X Y talk cursor past x → SpeaksProperly X Y talk came past
speaks-unacked {X} {Y} {talk} {cursor} {later} {came} {past} {cx} {frame} {x} more is_cx is_later inside here comes_here is speech =
    let grows : Grows (came_by cursor past) came past = λ n le taken. grows-by later past is n le (came-moves past more n le taken) in
    record {
      says = record { rest = unsaid x; is = speech.says };
      ten = speech.ten;
      begins = begins-grow X Y talk past grows speech.begins;
      acked = inr (record {
        last = record { number = length (at cx past) + 1; key = frame.key };
        older = data_taken X (at cx past);
        is = data_that_came-taken later past is (omega (arith, is_later, inside))
            ∙ (ap (λ k. data_taken X (at k past)) is_later ∙ (ap (data_taken X) here ∙ cond-true _ _ _ comes_here));
        acked = subst (λ k. AcksAreFor Y came past (data_taken X (at k past))) is_cx (acks-grow Y past (data_taken X (at (cursor X) past)) grows speech.acks);
      });
    }

-- ---- the abort stands last

-- what came is told by the frames before it
pub came-still : (cursor : End → ℕ) (frames : List FrameValue) (frame : FrameValue) (past : List PastFrame) → length past ≡ length frames
    → IsByCursor cursor (came_in frames) past → IsByCursor cursor (came_in (frames ++ frame ∷ [])) past
came-still cursor frames frame past same is n found older inside here = grind (arith, common_steps)
