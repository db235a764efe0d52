-- A line that runs on until an end knows that its message was taken.
use Rattle.std.specs.Prelude.{◌+◌, ◌≤◌, length}
use Rattle.padp_link.specs.Pieces.{piece_count}
use Rattle.trace_text.specs.Past.{said, acked, at}
use Rattle.line_steps.specs.declared.half.Half.{Half}
use Rattle.line_steps.specs.declared.half.Wire.{Wire}
use Rattle.line_steps.specs.Running.{past_now}

-- All that x said was taken; y waits for nothing, and x at most for the acknowledgement of its last
-- piece. Where it waits for nothing it knows that all was taken.
pub record AllTaken (wire : Wire) (x y : Half) : Type 0 where
  pub all : length (said x.end (past_now wire.frames.items))
      ≤ length (acked y.end (past_now wire.frames.items))
  pub idle : piece_count (length y.message) ≤ y.sender.acknowledged
  pub last : piece_count (length x.message) ≤ x.sender.acknowledged + 1
  pub knows : piece_count (length x.message) ≤ x.sender.acknowledged
      → length (said x.end (past_now wire.frames.items))
      ≤ length (acked y.end (at y.taken (past_now wire.frames.items)))
