-- A line that halted on the way of a session.
use Rattle.std.specs.Prelude.{ℕ, ◌≤◌, List}
use Rattle.trace_text.specs.declared.frame.End.{End}
use Rattle.trace_text.specs.declared.frame.End.TheVariants.{Handheld, Desktop}
use Rattle.trace_text.specs.Talks.{Talk}
use Rattle.line_laws.specs.Talking.{say}
use Rattle.line_steps.specs.declared.half.Half.{Half}
use Rattle.line_steps.specs.declared.half.Wire.{Wire}
use Rattle.line_steps.specs.declared.line.Line.{Line}
use Rattle.line_steps.specs.declared.sending.Halt.{Halt}
use Rattle.line_steps.specs.Advancing.{FallsShort, piece_total, took_count}
use Rattle.line_steps.specs.Halting.{HaltsBy, Spoke, other_end}
use Rattle.line_steps.specs.Telling.{IsNextTo, Talks, cursor_of}
use Rattle.line_steps.specs.Rests.{AreEnds}

-- a wire with the end that speaks over it and the other one
pub record Speaking : Type 0 where
  pub wire : Wire
  pub x : Half
  pub y : Half

abbrev pub speaking : Wire → Half → Half → Speaking
speaking wire x y = record { wire = wire; x = x; y = y }

-- It halted before the message of x was over: then the frames tell it by the rules, though it may
-- have stopped within it or before it. What was taken of y stays taken, and where an end has spent
-- its tries the message wasn't taken whole.
pub record HaltedOver (halt : Halt) (id : ℕ) (message : List ℕ) (old new : Speaking)
    : Type 0 where
  pub by : HaltsBy halt (cursor_of new.x new.y) new.wire.frames.items
  pub talks : (talk : Talk) → IsNextTo talk old.x old.y id → Talks talk old.wire old.x old.y
      → Spoke (say old.x.end message talk) new.wire new.x new.y
  pub other : took_count old.wire old.y ≤ took_count new.wire new.y
  pub short : (talk : Talk) → IsNextTo talk old.x old.y id → Talks talk old.wire old.x old.y
      → FallsShort halt (say old.x.end message talk) new.wire new.x

-- A line with which it is over, for this reason: its frames tell these messages by the rules,
-- though the last ones may not have come or been sent.
pub record LineEnds (halt : Halt) (talk : Talk) (line : Line) : Type 0 where
  pub ends : AreEnds line
  pub by : HaltsBy halt (cursor_of line.handheld line.desktop) line.wire.frames.items
  pub spoke : Spoke talk line.wire line.handheld line.desktop

-- the half of an end
abbrev pub half_of : End → Line → Half
half_of Handheld line = line.handheld
half_of Desktop line = line.desktop

-- It halted while X said the last of its messages: all messages of the other end were taken, and
-- where an end has spent its tries this last one wasn't taken whole.
pub record HaltsWithin (X : End) (halt : Halt) (talk : Talk) (line : Line) : Type 0 where
  pub others : piece_total (other_end X) talk ≤ took_count line.wire (half_of (other_end X) line)
  pub short : FallsShort halt talk line.wire (half_of X line)
