-- The data frames that came, and how far they are acknowledged.
use Rattle.std.specs.Prelude.{◌≡◌, ◌⊎◌, ℕ, ◌+◌, ◌<◌, ◌≤◌, Bool, true, ◌&&◌, List, [], ◌∷◌, length, map, reverse, take, slice_index_or, Option, Some, None, MatchOption, if◌then◌else◌}
use Rattle.std.specs.Bool.{MatchBool}
use Rattle.padp_link.specs.declared.piece.Key.{Key}
use Rattle.trace_text.specs.declared.frame.End.{End}
use Rattle.trace_text.specs.declared.frame.End.TheVariants.{Handheld, Desktop}
use Rattle.trace_text.specs.Faults.{late_of, newest, newest_repeat}
use Rattle.trace_text.specs.Frames.{add_frame}
use Rattle.trace_text.specs.Past.{PastFrame, first, said, is_data_of}
use Rattle.trace_text.specs.Proper.{NumberedFrame, is_ack_of}
use Rattle.trace_text.specs.TraceLines.{FrameValue}
use Rattle.trace_check.specs.Speaking.{is_again}
use Rattle.trace_check.specs.declared.acking.Acks.{Acks}
use Rattle.trace_check.specs.declared.came.DataCame.{DataCame}
use Rattle.trace_check.specs.declared.repeats.Repeats.{Repeats}

-- ---- what came

-- a data frame that came, by its number and its key
abbrev pub numbered_value : DataCame → NumberedFrame
numbered_value data_frame = record { number = data_frame.number; key = data_frame.key }

-- the data frames of X that came, the newest first, each with the number of the newest late frame
-- of X up to it
abbrev pub data_came : End → (ℕ → Bool) → List PastFrame → List DataCame
data_came X came [] = []
data_came X came (frame ∷ past) =
    if is_data_of X frame && came (length past + 1)
    then record {
      number = length past
          + 1;
      key = frame.key;
      late = newest (late_of X) (frame ∷ past);
    } ∷ data_came X came past
    else data_came X came past

-- the first ones of those that came, so many, the newest first
abbrev pub answered_of : List DataCame → ℕ → List NumberedFrame
answered_of data_frames count = reverse (map numbered_value (take count data_frames))

-- ---- repeats

-- the newest key of an end
abbrev pub newest_of : End → Repeats → Option Key
newest_of Handheld repeats = repeats.handheld
newest_of Desktop repeats = repeats.desktop

-- behind one frame more
abbrev pub repeats_after : PastFrame → Repeats → Repeats
repeats_after frame old = record {
  handheld = if is_data_of Handheld frame then Some frame.key else old.handheld;
  desktop = if is_data_of Desktop frame then Some frame.key else old.desktop;
  newest =
      if frame.is_data && is_again (newest_of frame.from old) frame.key then old.count + 1
      else old.newest;
  count = old.count + 1;
}

-- they are so behind these frames
pub record IsRepeats (past : List PastFrame) (repeats : Repeats) : Type 0 where
  pub key_is : (X : End) → newest_of X repeats ≡ first (said X past)
  pub newest_is : repeats.newest ≡ newest_repeat past
  pub count_is : repeats.count ≡ length past

-- ---- acknowledgements

-- the data frame reached what is sent next
pub record HasReached (repeats : Repeats) (data_frame : DataCame) : Type 0 where
  pub inside : data_frame.number ≤ repeats.count
  pub free : (data_frame.late ≡ 0) ⊎ (data_frame.late < repeats.newest)

-- an acknowledgement with this key is that of the next data frame, which has reached it
pub record AcksNext (data_frames : List DataCame) (old : Acks) (key : Key) : Type 0 where
  pub data_frame : DataCame
  pub inside : old.acked < length data_frames
  pub here : data_frame ≡ slice_index_or data_frames old.acked data_frame
  pub key_is : data_frame.key ≡ key
  pub reached : HasReached old.repeats data_frame

-- what was acknowledged when this was sent, and the repeats behind it
abbrev pub Hears : End → List DataCame → PastFrame → Acks → Acks → Type 0
Hears by data_frames frame old new =
    MatchBool (is_ack_of by frame)
    (AcksNext data_frames old frame.key
    × (new ≡ record { repeats = repeats_after frame old.repeats; acked = old.acked + 1 }))
    (new ≡ record { repeats = repeats_after frame old.repeats; acked = old.acked })

-- the frame is an acknowledgement, and not that of the next data frame
abbrev pub HearsWrong : End → List DataCame → PastFrame → Acks → Type 0
HearsWrong by data_frames frame old =
    (is_ack_of by frame ≡ true) × ¬ (AcksNext data_frames old frame.key)

-- what was sent goes before the past, if something was
abbrev pub pushed : Option PastFrame → List PastFrame → List PastFrame
pushed None past = past
pushed (Some frame) past = frame ∷ past

-- a frame of a trace is passed or not
pub record Passes (by : End) (data_frames : List DataCame) (frame : FrameValue) (old : Acks)
    (passed : Bool) (new : Acks) : Type 0 where
  pub sent : Option PastFrame
  pub adds : (past : List PastFrame) → add_frame frame past ≡ pushed sent past
  pub hears : MatchOption sent ((passed ≡ true) × (new ≡ old))
      (λ frame. MatchBool passed (Hears by data_frames frame old new)
      (HearsWrong by data_frames frame old))
