-- Proper traces: what holds of the frames of every run of two retrying ends over a line, said
-- without timers, tries or queues.
use Rattle.std.specs.Prelude.{◌≡◌, ◌⊎◌, ℕ, ◌+◌, ◌≤◌, ◌<◌, Bool, true, false, ◌&&◌, not, List, [], ◌∷◌, ◌++◌, length, reverse, Option, Some, None, if◌then◌else◌}
use Rattle.std.specs.Bool.{MatchBool}
use Rattle.std.specs.List.{AllByRecursion}
use Rattle.padp_link.specs.declared.piece.Key.{Key}
use Rattle.trace_text.specs.declared.frame.End.{End}
use Rattle.trace_text.specs.declared.frame.End.TheVariants.{Handheld, Desktop}
use Rattle.trace_text.specs.Fates.{FateValue, arrives, ends_run}
use Rattle.trace_text.specs.TraceLines.{FrameValue}
use Rattle.trace_text.specs.Past.{PastFrame, is_end, first, said, at, is_data_of, IsDataOf, IsAckOf, is_repeat, run}
use Rattle.trace_text.specs.Faults.{IsHeldIn, RepeatsHaveFaults}
use Rattle.trace_text.specs.Frames.{BearsFragment, past_of, came_in}
use Rattle.trace_text.specs.Parts.{Part, spoken, session_parts}
use Rattle.trace_text.specs.Talks.{Talk, Turn, messages_of, pieces_before, answered_by, answer_to}

-- The frames are numbered, each bears its number's fate, and one that ends the run is the last.
abbrev pub AreNumbered : ℕ → (ℕ → FateValue) → List FrameValue → Type 0
AreNumbered number script [] = Unit {0}
AreNumbered number script (frame ∷ later) =
    (frame.number ≡ number) × (frame.fate ≡ script number)
    × (ends_run frame.fate frame.bytes ≡ true → later ≡ []) × AreNumbered (number + 1) script later

-- a frame of this end that didn't come, or of the other end
abbrev pub StaysAway : End → FrameValue → Type 0
StaysAway X frame = frame.from ≡ X → frame.came ≡ false

-- A frame comes only where its fate lets it arrive. Behind one that could arrive and didn't come,
-- no frame of its direction comes.
abbrev pub ComeInOrder : List FrameValue → Type 0
ComeInOrder [] = Unit {0}
ComeInOrder (frame ∷ later) =
    (frame.came ≡ true → arrives frame.fate ≡ true)
    × (arrives frame.fate ≡ true → frame.came ≡ false → AllByRecursion (StaysAway frame.from) later)
    × ComeInOrder later

-- Frame n reached the frame that is sent behind this past: it stands there, came, and isn't held.
pub record Reaches (came : ℕ → Bool) (n : ℕ) (past : List PastFrame) : Type 0 where
  pub frame : PastFrame
  pub older : List PastFrame
  pub inside : n ≤ length past
  pub here : at n past ≡ frame ∷ older
  pub comes : came n ≡ true
  pub free : IsHeldIn frame.from n past → ⊥

-- frame n is an acknowledgement by Y of the newest fragment of X, behind that one's first frame
pub record AcksNewest (X Y : End) (past : List PastFrame) (n : ℕ) (frame : PastFrame) : Type 0 where
  pub is : IsAckOf Y frame
  pub behind : length (said X (at n past)) ≡ length (said X past)
  pub key_is : first (said X past) ≡ Some frame.key

-- frame n bears the fragment of X of this number, from 1 on
pub record BearsNumber (X : End) (past : List PastFrame) (n : ℕ) (frame : PastFrame)
    (number : ℕ) : Type 0 where
  pub is : IsDataOf X frame
  pub number_is : length (said X (at n past)) ≡ number

-- frame n bears the first fragment of the message that answers X's message of this number, whose
-- last fragment is the newest of X
pub record AnswersNewest (X Y : End) (talk : Talk) (past : List PastFrame) (n : ℕ)
    (frame : PastFrame) : Type 0 where
  pub number : ℕ
  pub answer : ℕ
  pub asked : number < length (messages_of X talk)
  pub there : answer < length (messages_of Y talk)
  pub answers : answer_to X number ≡ Some answer
  pub newest_ends : pieces_before (messages_of X talk) (number + 1) ≡ length (said X past)
  pub bears : BearsNumber Y past n frame (pieces_before (messages_of Y talk) answer + 1)

-- a frame that says to X that its newest fragment was taken reached what is sent behind this past
pub record IsKnown (X Y : End) (talk : Talk) (came : ℕ → Bool)
    (past : List PastFrame) : Type 0 where
  pub n : ℕ
  pub reaches : Reaches came n past
  pub cause : AcksNewest X Y past n reaches.frame ⊎ AnswersNewest X Y talk past n reaches.frame

-- a frame with the last fragment of this message reached it
pub record EndReached (turn : Turn) (talk : Talk) (came : ℕ → Bool)
    (past : List PastFrame) : Type 0 where
  pub n : ℕ
  pub reaches : Reaches came n past
  pub there : turn.number < length (messages_of turn.end talk)
  pub bears : BearsNumber turn.end past n reaches.frame
      (pieces_before (messages_of turn.end talk) (turn.number + 1))

abbrev pub IfAnswers : Option Turn → Talk → (ℕ → Bool) → List PastFrame → Type 0
IfAnswers None talk came past = Unit {0}
IfAnswers (Some turn) talk came past = EndReached turn talk came past

-- where a message of X begins behind this past, the end of the message that it answers was reached
abbrev pub AnswersReached : End → Talk → (ℕ → Bool) → List PastFrame → Type 0
AnswersReached X talk came past =
    (number : ℕ) → number < length (messages_of X talk)
    → pieces_before (messages_of X talk) number ≡ length (said X past)
    → IfAnswers (answered_by X number) talk came past

-- each new fragment of X goes out once X knows that the one before it was taken, and once what its
-- message answers was taken
abbrev pub BeginInTurn : End → End → Talk → (ℕ → Bool) → List PastFrame → Type 0
BeginInTurn X Y talk came [] = Unit {0}
BeginInTurn X Y talk came (frame ∷ past) =
    (is_data_of X frame ≡ true → is_repeat X frame past ≡ false
    → (0 < length (said X past) → IsKnown X Y talk came past) × AnswersReached X talk came past)
    × BeginInTurn X Y talk came past

-- no key stands more than ten times in a row
abbrev pub AtMostTen : End → List PastFrame → Type 0
AtMostTen X [] = Unit {0}
AtMostTen X (frame ∷ past) = (run X (frame ∷ past) ≤ 10) × AtMostTen X past

-- what X said are the first parts of its messages
pub record SaysMessages (X : End) (talk : Talk) (past : List PastFrame) : Type 0 where
  pub rest : List Part
  pub is : reverse (spoken X past) ++ rest ≡ session_parts 0 (messages_of X talk)

-- a frame with its number
pub record NumberedFrame : Type 0 where
  pub number : ℕ
  pub key : Key

-- the data frames of X that came, the newest first
abbrev pub data_that_came : End → (ℕ → Bool) → List PastFrame → List NumberedFrame
data_that_came X came [] = []
data_that_came X came (frame ∷ past) =
    if is_data_of X frame && came (length past + 1)
    then record { number = length past + 1; key = frame.key } ∷ data_that_came X came past
    else data_that_came X
    came past

abbrev pub is_ack_of : End → PastFrame → Bool
is_ack_of Y frame = is_end Y frame.from && not frame.is_data

-- The acknowledgements by Y in this past are those of these data frames, in order: each bears the
-- key of its own, which reached it.
abbrev pub AcksAreFor : End → (ℕ → Bool) → List PastFrame → List NumberedFrame → Type 0
AcksAreFor Y came [] answered = answered ≡ []
AcksAreFor Y came (frame ∷ past) answered =
    MatchBool (is_ack_of Y frame)
    ((data_frame : NumberedFrame) × (older : List NumberedFrame) × (answered ≡ data_frame ∷ older)
    × (data_frame.key ≡ frame.key) × Reaches came data_frame.number past
    × AcksAreFor Y came past older)
    (AcksAreFor Y came past answered)

-- of all but the last
pub record AllButLastAcked (Y : End) (came : ℕ → Bool) (past : List PastFrame)
    (answered : List NumberedFrame) : Type 0 where
  pub last : NumberedFrame
  pub older : List NumberedFrame
  pub is : answered ≡ last ∷ older
  pub acked : AcksAreFor Y came past older

-- The acknowledgements are those of the data frames that came: of all of them, or of all but the
-- last.
abbrev pub DataIsAcked : End → End → (ℕ → Bool) → List PastFrame → Type 0
DataIsAcked X Y came past =
    AcksAreFor Y came past (data_that_came X came past)
    ⊎ AllButLastAcked Y came past (data_that_came X came past)

-- all that holds of one end's frames
pub record SpeaksProperly (X Y : End) (talk : Talk) (came : ℕ → Bool)
    (past : List PastFrame) : Type 0 where
  pub says : SaysMessages X talk past
  pub ten : AtMostTen X past
  pub begins : BeginInTurn X Y talk came past
  pub acked : DataIsAcked X Y came past

-- all that holds of a trace, by the script of its line and the messages of both ends
pub record IsProper (script : ℕ → FateValue) (talk : Talk) (frames : List FrameValue) : Type 0 where
  pub numbered : AreNumbered 1 script frames
  pub bear : AllByRecursion BearsFragment frames
  pub come : ComeInOrder frames
  pub faults : RepeatsHaveFaults (past_of frames)
  pub handheld : SpeaksProperly Handheld Desktop talk (came_in frames) (past_of frames)
  pub desktop : SpeaksProperly Desktop Handheld talk (came_in frames) (past_of frames)
