-- A message on its way from one end to the other.
use Rattle.std.specs.Prelude.{◌⊎◌, ◌+◌, ◌<◌, ⊤, length}
use Rattle.padp_link.specs.Pieces.{piece_count}
use Rattle.padp_link.specs.declared.receiver.Taken.{Taken}
use Rattle.padp_link.specs.declared.receiver.Taken.TheVariants.{Whole}
use Rattle.trace_text.specs.Past.{said, acked}
use Rattle.line_laws.specs.Core.{Waiting}
use Rattle.line_steps.specs.declared.half.Half.{Half}
use Rattle.line_steps.specs.declared.half.Wire.{Wire}
use Rattle.line_steps.specs.declared.hearing.Heard.{Heard}
use Rattle.line_steps.specs.declared.hearing.Heard.TheVariants.{Data}
use Rattle.line_steps.specs.Running.{past_now, side_of}
use Rattle.line_steps.specs.Settling.{AllTaken}
use Rattle.line_steps.specs.Telling.{KeepsTalk}

-- x waits, and y hasn't its message whole: the newest piece wasn't taken, or another one comes
-- behind it
pub record Underway (wire : Wire) (x y : Half) : Type 0 where
  pub waits : Waiting (side_of x)
  pub due : (length (acked y.end (past_now wire.frames.items))
      < length (said x.end (past_now wire.frames.items)))
      ⊎ (x.sender.acknowledged + 1 < piece_count (length x.message))

-- unless y took the last piece
abbrev pub UnderwayAfter : Taken → Wire → Half → Half → Type 0
UnderwayAfter Whole wire x y = ⊤
UnderwayAfter taken wire x y = Underway wire x y

abbrev pub UnderwayBehind : Heard → Wire → Half → Half → Type 0
UnderwayBehind (Data key taken) wire x y = UnderwayAfter taken wire x y
UnderwayBehind heard wire x y = Underway wire x y

-- y heard this of x: a message of x is on its way still, unless it is whole, and so is one of y;
-- what was all taken is so still;
-- and the frames tell of the same messages
pub record StillUnderway (heard : Heard) (wire : Wire) (x y : Half) (new : Wire)
    (later_x later_y : Half) : Type 0 where
  pub own : Underway wire x y → UnderwayBehind heard new later_x later_y
  pub other : Underway wire y x → Underway new later_y later_x
  pub own_taken : Waiting (side_of x) → AllTaken wire x y → AllTaken new later_x later_y
  pub other_taken : Waiting (side_of y) → AllTaken wire y x → AllTaken new later_y later_x
  pub talks : KeepsTalk wire x y new later_x later_y
