-- A frame came.
use Rattle.std.specs.Prelude.{◌≡◌, ℕ}
use Rattle.trace_text.specs.FrameLogs.{marked}
use Rattle.line_steps.specs.declared.half.Wire.{Wire}

pub record Marks (n : ℕ) (wire new : Wire) : Type 0 where
  pub frames_are : new.frames.items ≡ marked n wire.frames.items
  pub released_is : new.released ≡ wire.released
  pub room_is : new.frames ≡ record wire.frames { items = new.frames.items }
