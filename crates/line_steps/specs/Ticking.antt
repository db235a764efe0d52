-- A piece is sent again.
use Rattle.std.specs.Prelude.{◌≡◌, ◌+◌, ◌<◌, None}
use Rattle.trace_text.specs.Fates.{FateValue}
use Rattle.line_laws.specs.Core.{part_now}
use Rattle.line_steps.specs.declared.half.Half.{Half}
use Rattle.line_steps.specs.declared.half.Wire.{Wire}
use Rattle.line_steps.specs.Running.{side_of}
use Rattle.line_steps.specs.Sending.{Sends}

-- an end sends its waiting piece once more: it was sent less than ten times
pub record SendsAgain (wire : Wire) (half : Half) (given : FateValue) (new : Wire)
    (later : Half) : Type 0 where
  pub few : half.sender.tries < 10
  pub counted : later
      ≡ record half { sender = record half.sender { tries = half.sender.tries + 1 } }
  pub sends : Sends wire.frames.items half.end half.sender.id
      (part_now (side_of half)) given None new.frames.items
  pub released : new.released ≡ wire.released
