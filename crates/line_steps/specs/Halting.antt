-- What stands behind a run that halted.
use Rattle.std.specs.Prelude.{◌≡◌, ℕ, ◌+◌, ◌-◌, ◌≤◌, ◌<◌, Bool, true, false, List, [], ◌∷◌, ◌++◌, length, Some}
use Rattle.padp_link.specs.declared.piece.Key.{Key}
use Rattle.trace_text.specs.declared.frame.End.{End}
use Rattle.trace_text.specs.declared.frame.End.TheVariants.{Handheld, Desktop}
use Rattle.trace_text.specs.declared.frame.Frame.{Frame}
use Rattle.trace_text.specs.Fates.{FateValue, fate_value}
use Rattle.trace_text.specs.Faults.{faulted, count, RepeatsHaveFaults}
use Rattle.trace_text.specs.Frames.{BearsFragment, fragment_in, is_abort}
use Rattle.trace_text.specs.Past.{PastFrame, first, said, run, at}
use Rattle.trace_text.specs.Proper.{SpeaksProperly}
use Rattle.trace_text.specs.Talks.{Talk}
use Rattle.trace_text.specs.TraceLines.{frame_value}
use Rattle.line_laws.specs.Came.{came_by}
use Rattle.line_laws.specs.Core.{part_now}
use Rattle.line_laws.specs.Trace.{NoAck}
use Rattle.line_steps.specs.declared.half.Half.{Half}
use Rattle.line_steps.specs.declared.half.Wire.{Wire}
use Rattle.line_steps.specs.declared.harm.Stop.{Stop}
use Rattle.line_steps.specs.declared.harm.Stop.TheVariants.{Unplugged, Aborted, Undetected}
use Rattle.line_steps.specs.declared.sending.Halt.{Halt}
use Rattle.line_steps.specs.declared.sending.Halt.TheVariants.{NoMemory, Stopped, Down}
use Rattle.line_steps.specs.Running.{AllGo, past_now, side_of}
use Rattle.line_steps.specs.Sending.{StopsBy, Halts, abort_fragment}
use Rattle.line_steps.specs.Stories.{TookMessages}
use Rattle.line_steps.specs.Telling.{cursor_of, Talks}

-- ten faults stand among the last 54 frames
abbrev pub TenFaults : List PastFrame → Type 0
TenFaults past =
    (first_one : ℕ) × (0 < first_one) × (length past < first_one + 54)
    × (10 + count faulted (at (first_one - 1) past) ≤ count faulted past)

abbrev pub other_end : End → End
other_end Handheld = Desktop
other_end Desktop = Handheld

-- The last ten data frames of X bear one key, no acknowledgement of it behind the first of them was
-- taken, and ten faults stand among the last frames.
pub record IsSpent (X : End) (cursor : End → ℕ) (past : List PastFrame) : Type 0 where
  pub key : Key
  pub newest : first (said X past) ≡ Some key
  pub ten : run X past ≡ 10
  pub unanswered : NoAck X (other_end X) past (cursor (other_end X)) key
  pub faults : TenFaults past

abbrev pub is_aborted : Stop → Bool
is_aborted Unplugged = false
is_aborted Aborted = true
is_aborted Undetected = false

-- The run ends with the last of these frames for this reason, and with none before it. Where it was
-- aborted, the abort packet stands in its place.
pub record EndsWith (stop : Stop) (frames : List Frame) : Type 0 where
  pub before : List Frame
  pub last : Frame
  pub is : frames ≡ before ++ last ∷ []
  pub go : AllGo 1 before
  pub number_is : last.number ≡ length before + 1
  pub stops : StopsBy (fate_value last.fate) last.bytes.items (Some stop)
  pub bears : BearsFragment (frame_value last)
  pub aborts : is_abort (fragment_in (frame_value last)).kind ≡ is_aborted stop
  pub abort_is : stop ≡ Aborted → fragment_in (frame_value last) ≡ abort_fragment

-- why a run halted, by its frames
abbrev pub HaltsBy : Halt → (End → ℕ) → List Frame → Type 0
HaltsBy NoMemory cursor frames = AllGo 1 frames
HaltsBy (Stopped stop) cursor frames = EndsWith stop frames
HaltsBy (Down end) cursor frames = AllGo 1 frames × IsSpent end cursor (past_now frames)

-- both ends said and took their messages by the rules of a proper trace, and the cursors stand
-- within it
pub record HasProperPast (X Y : End) (talk : Talk) (cursor : End → ℕ)
    (past : List PastFrame) : Type 0 where
  pub faults : RepeatsHaveFaults past
  pub x_speaks : SpeaksProperly X Y talk (came_by cursor past) past
  pub y_speaks : SpeaksProperly Y X talk (came_by cursor past) past
  pub x_in : cursor X ≤ length past
  pub y_in : cursor Y ≤ length past
  pub x_took : TookMessages X talk past (cursor X)
  pub y_took : TookMessages Y talk past (cursor Y)

abbrev pub Spoke : Talk → Wire → Half → Half → Type 0
Spoke talk wire x y = HasProperPast x.end y.end talk (cursor_of x y) (past_now wire.frames.items)

-- a run halted on the way from one state to another
pub record HaltsBetween (halt : Halt) (wire : Wire) (x y : Half) (new : Wire)
    (later_x later_y : Half) : Type 0 where
  pub x_end : later_x.end ≡ x.end
  pub y_end : later_y.end ≡ y.end
  pub by : HaltsBy halt (cursor_of later_x later_y) new.frames.items
  pub talks : (talk : Talk) → Talks talk wire x y → Spoke talk new later_x later_y

-- A waiting piece isn't sent again: it was sent ten times, or memory ran out, or the run ends with
-- it.
abbrev pub NotAgain : Halt → FateValue → Half → Wire → Wire → Type 0
NotAgain (Down end) given half old new = (end ≡ half.end) × (half.sender.tries ≡ 10) × (new ≡ old)
NotAgain halt given half old new = (half.sender.tries < 10)
    × Halts old.frames.items half.end half.sender.id
    (part_now (side_of half)) given halt new.frames.items
