-- Whose turn it is: an end may begin its next message.
use Rattle.std.specs.Prelude.{Some, ◌≡◌, ◌+◌, ◌≤◌, false, ⊤, length, map}
use Rattle.padp_link.specs.Pieces.{piece_count}
use Rattle.padp_link.specs.Receivers.{whole_of}
use Rattle.padp_link.specs.declared.receiver.Taken.{Taken}
use Rattle.padp_link.specs.declared.receiver.Taken.TheVariants.{Whole}
use Rattle.trace_text.specs.Past.{said, acked, at}
use Rattle.trace_text.specs.TraceLines.{frame_value}
use Rattle.line_laws.specs.Core.{Apart}
use Rattle.line_laws.specs.Line.{Line}
use Rattle.line_steps.specs.declared.half.Half.{Half}
use Rattle.line_steps.specs.declared.half.Wire.{Wire}
use Rattle.line_steps.specs.declared.hearing.Heard.{Heard}
use Rattle.line_steps.specs.declared.hearing.Heard.TheVariants.{Data}
use Rattle.line_steps.specs.Acknowledging.{EndsAcknowledging, last_key}
use Rattle.line_steps.specs.Running.{past_now, AllGo, IsHalf, station_of}

-- what holds of the line where all that was said is taken
pub record IsAllTaken (wire : Wire) (x y : Half) : Type 0 where
  pub apart : Apart x.end y.end
  pub go : AllGo 1 wire.frames.items
  pub x_half : IsHalf x
  pub y_half : IsHalf y
  pub line : Line x.end y.end (past_now wire.frames.items) wire.released (station_of x false)
      (station_of y false) x.sender.tries y.sender.tries

-- x may begin its next message: it waits for nothing and knows that all its own was taken, and the
-- other end's message is whole
pub record Turn (wire : Wire) (x y : Half) : Type 0 where
  pub settled : IsAllTaken wire x y
  pub knows : length (said x.end (past_now wire.frames.items))
      ≤ length (acked y.end (at y.taken (past_now wire.frames.items)))
  pub idle : piece_count (length x.message) ≤ x.sender.acknowledged
  pub last : piece_count (length y.message) ≤ y.sender.acknowledged + 1

-- behind data that made a message whole it is the turn of x, which took it, has the message, and
-- sent its acknowledgement last
abbrev pub TurnAfter : Taken → Wire → Half → Half → Type 0
TurnAfter Whole wire x y =
    Turn wire x y × (whole_of x.receiver.pieces ≡ Some y.message)
    × EndsAcknowledging x.end (last_key y.sender.id y.message)
    (map frame_value wire.frames.items)
TurnAfter taken wire x y = ⊤

abbrev pub TurnBehind : Heard → Wire → Half → Half → Type 0
TurnBehind (Data key taken) wire x y = TurnAfter taken wire x y
TurnBehind heard wire x y = ⊤
