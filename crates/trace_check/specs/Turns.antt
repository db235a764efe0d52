-- Whether a new fragment may go out, by what is known of both ends, and how far the frames of a
-- trace were walked.
use Rattle.std.specs.Prelude.{◌≡◌, ◌↔◌, ℕ, ◌-◌, Bool, true, false, not, ◌&&◌, ◌||◌, List, length, drop, nat_eq}
use Rattle.std.specs.Prelude.{Option, Some, None, if◌then◌else◌}
use Rattle.trace_text.specs.declared.frame.End.{End}
use Rattle.trace_text.specs.declared.frame.End.TheVariants.{Handheld, Desktop}
use Rattle.trace_text.specs.Frames.{past_of, past_behind, came_in}
use Rattle.trace_text.specs.Past.{PastFrame}
use Rattle.trace_text.specs.Talks.{Talk, Turn, answered_by, answer_to}
use Rattle.trace_text.specs.TraceLines.{FrameValue}
use Rattle.trace_check.specs.Arrivals.{is_free}
use Rattle.trace_check.specs.BothEnds.{BothValue, AreSides, side_of, other_end}
use Rattle.trace_check.specs.Judging.{KnowsBefore, AnswersInTurn}
use Rattle.trace_check.specs.Messages.{talk_in}
use Rattle.trace_check.specs.Sides.{SideValue, is_key, is_start, is_start_free, is_end_free}
use Rattle.trace_check.specs.declared.notice.Notice.{Notice}

-- a message by its end and its number
abbrev pub turn_value : End × ℕ → Turn
turn_value turn = record { end = turn.0; number = turn.1 }

-- the message that answers, if there is one, began and reached its end
abbrev pub is_answered_by : Option ℕ → ℕ → SideValue → Bool
is_answered_by None repeat side = false
is_answered_by (Some number) repeat side = is_start_free repeat number side

-- X knows that its newest fragment was taken, where it said one
abbrev pub is_known : End → BothValue → Bool
is_known X both =
    let side = side_of X both in
    let answer = answer_to X (length side.starts - 2) in
    is_free both.repeat side.ack
    || (is_start side && is_answered_by answer both.repeat (side_of (other_end X) both))

-- the message, if there is one, was taken whole
abbrev pub is_end_reached : Option Turn → BothValue → Bool
is_end_reached None both = true
is_end_reached (Some turn) both = is_end_free both.repeat turn.number (side_of turn.end both)

-- where the next fragment of X begins a message, what that answers was taken
abbrev pub has_answer : End → BothValue → Bool
has_answer X both =
    let side = side_of X both in
    if is_start side then is_end_reached (answered_by X (length side.starts - 1)) both else true

-- the frame bears a new fragment of the end of which this is known
abbrev pub is_new : Notice → SideValue → Bool
is_new notice side = notice.is_data && not (is_key notice.key side.key)

-- where the frame bears a new fragment, its end knows that the one before was taken
abbrev pub knows_after : Notice → BothValue → Bool
knows_after notice both =
    let side = side_of notice.from both in
    not (is_new notice side) || nat_eq (length side.arrivals) 0 || is_known notice.from both

-- where it bears a new fragment, what its message answers was taken
abbrev pub answers_after : Notice → BothValue → Bool
answers_after notice both =
    not (is_new notice (side_of notice.from both)) || has_answer notice.from both

-- both ends knew, before they went on, that what they said was taken
abbrev pub BothKnow : Talk → (ℕ → Bool) → List PastFrame → Type 0
BothKnow talk came past =
    KnowsBefore Handheld Desktop talk came past × KnowsBefore Desktop Handheld talk came past

-- what their messages answer was taken before these went out
abbrev pub BothAnswer : Talk → (ℕ → Bool) → List PastFrame → Type 0
BothAnswer talk came past =
    AnswersInTurn Handheld talk came past × AnswersInTurn Desktop talk came past

-- so many frames were walked
pub record IsWalked (frames : List FrameValue) (count : ℕ) (both : BothValue) (knows answers : Bool)
    : Type 0 where
  pub past : List PastFrame
  pub rest_is : past_behind past (drop count frames) ≡ past_of frames
  pub counted : length past ≡ count
  pub are : AreSides (talk_in frames) (came_in frames) past both
  pub knows_is : knows ≡ true ↔ BothKnow (talk_in frames) (came_in frames) past
  pub answers_is : answers ≡ true ↔ BothAnswer (talk_in frames) (came_in frames) past
