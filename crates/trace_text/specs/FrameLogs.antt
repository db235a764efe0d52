-- The frames of a line in little memory: which frames they are, and the room that they have.
use Rattle.std.specs.Prelude.{◌≡◌, ℕ, zero, suc, ◌+◌, ◌≤◌, false, true, List, [], ◌∷◌, ◌++◌, length, slice_get, Some}
use Rattle.trace_text.specs.declared.frame.End.{End}
use Rattle.trace_text.specs.declared.frame.Frame.{Frame}
use Rattle.trace_text.specs.Fates.{FateValue, fate_bytes, fate_value}
use Rattle.trace_text.specs.TraceLines.{FrameValue, frame_value}

-- the frames, for how many there is room, and for how many bytes
pub record FrameLogValue : Type 0 where
  pub items : List Frame
  pub room : ℕ
  pub byte_room : ℕ

-- how many bytes a frame has, with those of its fate
abbrev pub frame_size : FrameValue → ℕ
frame_size frame = length (fate_bytes frame.fate) + length frame.bytes

abbrev pub byte_count : List Frame → ℕ
byte_count [] = 0
byte_count (frame ∷ later) = frame_size (frame_value frame) + byte_count later

-- one frame more, with the next number, of this end, with this fate and these bytes, that didn't
-- come yet
pub record Adds (from : End) (given : FateValue) (bytes : List ℕ) (old new : List Frame)
    : Type 0 where
  pub frame : Frame
  pub is : new ≡ old ++ frame ∷ []
  pub number_is : frame.number ≡ length old + 1
  pub from_is : frame.from ≡ from
  pub fate_is : fate_value frame.fate ≡ given
  pub came_is : frame.came ≡ false
  pub bytes_are : frame.bytes.items ≡ bytes

-- the frame behind so many is this one
pub record IsFrameAt (frames : List Frame) (n : ℕ) (value : FrameValue) : Type 0 where
  pub frame : Frame
  pub here : slice_get frames n ≡ Some frame
  pub is : value ≡ frame_value frame

-- the room never shrinks
pub record KeepsRoom (old new : FrameLogValue) : Type 0 where
  pub frames : old.room ≤ new.room
  pub bytes : old.byte_room ≤ new.byte_room

-- the frame behind so many bears the mark that it came
abbrev pub marked : ℕ → List Frame → List Frame
marked n [] = []
marked zero (frame ∷ later) = record frame { came = true } ∷ later
marked (suc n) (frame ∷ later) = frame ∷ marked n later
