-- The last frame of a line over which a message went whole: the acknowledgement of its last piece.
use Rattle.std.specs.Prelude.{◌≡◌, ℕ, ◌-◌, false, List, [], ◌∷◌, ◌++◌, length}
use Rattle.padp_link.specs.declared.piece.Key.{Key}
use Rattle.padp_link.specs.Pieces.{piece_count, piece_of}
use Rattle.trace_text.specs.declared.frame.End.{End}
use Rattle.trace_text.specs.Fates.{ends_run}
use Rattle.trace_text.specs.Frames.{padp_packet}
use Rattle.trace_text.specs.TraceLines.{FrameValue}
use Rattle.line_steps.specs.Sending.{ack_fragment}

-- the key of the last piece of a message under this id
abbrev pub last_key : ℕ → List ℕ → Key
last_key id message = (piece_of id (length message) (piece_count (length message) - 1)).key

-- The last of these frames is an acknowledgement by Y of the piece with this key, and the run goes
-- on behind it: its fate is neither an unplug nor an abort, and nothing that arrives of it by
-- itself holds a packet.
pub record EndsAcknowledging (Y : End) (key : Key) (frames : List FrameValue) : Type 0 where
  pub before : List FrameValue
  pub last : FrameValue
  pub is : frames ≡ before ++ last ∷ []
  pub from_is : last.from ≡ Y
  pub bytes_are : last.bytes ≡ padp_packet key.id (ack_fragment key)
  pub goes_on : ends_run last.fate last.bytes ≡ false
