-- The parts of a running line: the frames so far as a past, what an end sends, and what holds of
-- both ends and the frames after each step.
use Rattle.std.specs.Prelude.{◌≡◌, ◌⊎◌, ℕ, ◌+◌, ◌<◌, Bool, true, false, ◌&&◌, ⊤, List, [], ◌∷◌, length, map, slice_get, Some}
use Rattle.trace_text.specs.declared.frame.End.{End}
use Rattle.trace_text.specs.declared.frame.Frame.{Frame}
use Rattle.trace_text.specs.Fates.{fate_value, arrives, ends_run}
use Rattle.trace_text.specs.Frames.{BearsFragment, sent_in, past_of}
use Rattle.trace_text.specs.Past.{PastFrame, is_end}
use Rattle.trace_text.specs.TraceLines.{FrameValue, frame_value}
use Rattle.line_laws.specs.Core.{Apart, Side, Station, speaker, station}
use Rattle.line_laws.specs.Line.{Line}
use Rattle.line_steps.specs.declared.half.Half.{Half}
use Rattle.line_steps.specs.declared.half.Wire.{Wire}

abbrev pub sent_of : Frame → PastFrame
sent_of frame = sent_in (frame_value frame)

-- the frames so far, the newest first
abbrev pub past_now : List Frame → List PastFrame
past_now frames = past_of (map frame_value frames)

-- a frame of this number with which the run goes on
pub record Goes (number : ℕ) (frame : FrameValue) : Type 0 where
  pub number_is : frame.number ≡ number
  pub bears : BearsFragment frame
  pub goes_on : ends_run frame.fate frame.bytes ≡ false

abbrev pub AllGo : ℕ → List Frame → Type 0
AllGo number [] = ⊤
AllGo number (frame ∷ later) = Goes number (frame_value frame) × AllGo (number + 1) later

-- the message that an end sends, and how many of its pieces are acknowledged
abbrev pub side_of : Half → Side
side_of half = record {
  id = half.sender.id;
  message = half.message;
  acknowledged = half.sender.acknowledged;
}

-- an end on the line, whose newest fragment wasn't taken yet or was
abbrev pub station_of : Half → Bool → Station
station_of half fresh = station (speaker (side_of half) fresh) half.taken half.receiver

-- the sender sends the message, and the reader took a gap last
pub record IsHalf (half : Half) : Type 0 where
  pub length_is : half.sender.length ≡ length half.message
  pub gap : half.reader.held ≡ []

-- what holds of the wire and of both ends after each step
pub record Holds (wire : Wire) (x y : Half) : Type 0 where
  pub apart : Apart x.end y.end
  pub fx : Bool
  pub fy : Bool
  pub go : AllGo 1 wire.frames.items
  pub x_half : IsHalf x
  pub y_half : IsHalf y
  pub line : Line x.end y.end (past_now wire.frames.items) wire.released (station_of x fx)
      (station_of y fy) x.sender.tries y.sender.tries

-- the frame behind so many is of this end, and comes
pub record ComesNext (X : End) (frames : List Frame) (n : ℕ) : Type 0 where
  pub inside : n < length frames
  pub is : (frame : Frame) → slice_get frames n ≡ Some frame
      → (is_end X frame.from && arrives (fate_value frame.fate)) ≡ true

-- all frames of this end are passed, or the next one comes
abbrev pub AtHead : End → List Frame → ℕ → Type 0
AtHead X frames n = (n ≡ length frames) ⊎ ComesNext X frames n

-- the cursor alone moved
abbrev pub MovesCursor : Half → Half → Type 0
MovesCursor old new = new ≡ record old { taken = new.taken }

-- the reader alone read
abbrev pub MovesReader : Half → Half → Type 0
MovesReader old new = new ≡ record old { reader = new.reader }

-- the receiver took something, too
abbrev pub MovesReceiver : Half → Half → Type 0
MovesReceiver old new = new ≡ record old { receiver = new.receiver; reader = new.reader }

-- it is the same end with the same message
pub record Stays (old new : Half) : Type 0 where
  pub end_is : new.end ≡ old.end
  pub message_is : new.message ≡ old.message
  pub taken_is : new.taken ≡ old.taken
  pub id_is : new.sender.id ≡ old.sender.id

-- it is the same end, and its cursor stays
abbrev pub SamePlace : Half → Half → Type 0
SamePlace old new = (new.end ≡ old.end) × (new.taken ≡ old.taken)
