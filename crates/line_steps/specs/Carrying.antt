-- A message goes over to the other end, step by step.
use Rattle.std.specs.Prelude.{◌≡◌, ◌⊎◌, ◌<◌, ◌≤◌, Bool, true, false, Some, map}
use Rattle.padp_link.specs.Receivers.{whole_of}
use Rattle.padp_link.specs.Senders.{Waits}
use Rattle.padp_link.specs.declared.receiver.Taken.TheVariants.{Whole}
use Rattle.trace_text.specs.TraceLines.{frame_value}
use Rattle.line_laws.specs.Progress.{IsBlocked}
use Rattle.line_steps.specs.declared.carrying.Next.{Next}
use Rattle.line_steps.specs.declared.carrying.Next.TheVariants.{Own, Other, Nothing}
use Rattle.line_steps.specs.declared.half.Half.{Half}
use Rattle.line_steps.specs.declared.half.Wire.{Wire}
use Rattle.line_steps.specs.declared.hearing.Heard.{Heard}
use Rattle.line_steps.specs.declared.hearing.Heard.TheVariants.{Data}
use Rattle.line_steps.specs.Acknowledging.{EndsAcknowledging, last_key}
use Rattle.line_steps.specs.Running.{Holds, past_now}
use Rattle.line_steps.specs.Taking.{Delivers}
use Rattle.line_steps.specs.Settling.{AllTaken}
use Rattle.line_steps.specs.Telling.{KeepsTalk}
use Rattle.line_steps.specs.Turning.{Turn}
use Rattle.line_steps.specs.Underway.{Underway}
use Rattle.line_steps.specs.Working.{work_left}

-- it is the same end, with the same message of the same transaction
pub record SameMessage (old new : Half) : Type 0 where
  pub end_is : new.end ≡ old.end
  pub message_is : new.message ≡ old.message
  pub id_is : new.sender.id ≡ old.sender.id

-- y has the message of x, which it may answer, and sent the acknowledgement of its last piece last;
-- x waits for that
pub record HasMessage (wire : Wire) (x y : Half) : Type 0 where
  pub turn : Turn wire y x
  pub waits : Waits x.sender
  pub message : whole_of y.receiver.pieces ≡ Some x.message
  pub acked : EndsAcknowledging y.end (last_key x.sender.id x.message)
      (map frame_value wire.frames.items)

-- the message is over, or on its way still
abbrev pub Reaches : Bool → Wire → Half → Half → Type 0
Reaches true wire x y = HasMessage wire x y
Reaches false wire x y = Underway wire x y

-- A step while x waits leaves less to do. Where a message is on its way, it may be over; and what
-- was all taken is so still.
pub record StepTo (whole : Bool) (wire : Wire) (x y : Half) (new : Wire)
    (later_x later_y : Half) : Type 0 where
  pub holds : Holds new later_x later_y
  pub less : work_left new later_x later_y < work_left wire x y
  pub underway : Underway wire x y → Reaches whole new later_x later_y
  pub taken : AllTaken wire x y → AllTaken new later_x later_y
  pub x_same : SameMessage x later_x
  pub y_same : SameMessage y later_y
  pub talks : KeepsTalk wire x y new later_x later_y

-- what was heard made the message whole
abbrev pub makes_whole : Heard → Bool
makes_whole (Data key Whole) = true
makes_whole heard = false

-- the lower of the two heads that aren't held
abbrev pub IsNext : Wire → Half → Half → Next → Type 0
IsNext wire x y Own =
    Delivers x.end wire x.taken
    × (IsBlocked y.end (past_now wire.frames.items) y.taken wire.released ⊎ (x.taken < y.taken))
IsNext wire x y Other =
    Delivers y.end wire y.taken
    × (IsBlocked x.end (past_now wire.frames.items) x.taken wire.released ⊎ (y.taken ≤ x.taken))
IsNext wire x y Nothing =
    IsBlocked x.end (past_now wire.frames.items) x.taken wire.released
    × IsBlocked y.end (past_now wire.frames.items) y.taken wire.released
