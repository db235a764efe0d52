-- What the reader of an end counts: of each frame that was taken off the line what landed.
use Rattle.std.specs.Prelude.{◌≡◌, ℕ, zero, suc, List, [], ◌∷◌, length, slice_get, Some, if◌then◌else◌}
use Rattle.slp_frames.specs.Histories.{raised}
use Rattle.slp_frames.specs.Readers.{TallyValue}
use Rattle.trace_text.specs.declared.frame.End.{End}
use Rattle.trace_text.specs.declared.frame.Frame.{Frame}
use Rattle.trace_text.specs.Fates.{arrives, landing}
use Rattle.trace_text.specs.Past.{is_end}
use Rattle.trace_text.specs.TraceLines.{FrameValue, frame_value}
use Rattle.line_steps.specs.declared.half.Half.{Half}
use Rattle.line_steps.specs.declared.half.Wire.{Wire}

-- the counts behind a frame: its bytes that land, and a packet where it arrives
abbrev pub landed : FrameValue → TallyValue → TallyValue
landed frame tally =
    record {
      bytes = raised tally.bytes (landing frame.fate (length frame.bytes));
      packets = if arrives frame.fate then raised tally.packets 1 else tally.packets;
    }

-- behind the frames of X among the first so many
abbrev pub counts : End → ℕ → List Frame → TallyValue → TallyValue
counts X zero frames tally = tally
counts X (suc n) [] tally = tally
counts X (suc n) (frame ∷ later) tally =
    counts X n later (if is_end X frame.from then landed (frame_value frame) tally else tally)

-- an end counted the frame behind so many
abbrev pub Lands : ℕ → Wire → Half → Half → Type 0
Lands n wire old new =
    (frame : Frame) → slice_get wire.frames.items n ≡ Some frame
    → new.reader.tally ≡ landed (frame_value frame) old.reader.tally

-- both readers counted all that was taken off the line for them, and nothing else
pub record CountsTaken (wire : Wire) (x y : Half) : Type 0 where
  pub by_y : y.reader.tally ≡ counts x.end x.taken wire.frames.items (record {
    bytes = 0;
    packets = 0;
  })
  pub by_x : x.reader.tally ≡ counts y.end y.taken wire.frames.items (record {
    bytes = 0;
    packets = 0;
  })
