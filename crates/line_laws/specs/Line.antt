-- All that holds of a running line after every step.
use Rattle.std.specs.Prelude.{◌≡◌, ℕ, ◌≤◌, ◌<◌, List, length}
use Rattle.trace_text.specs.Past.{PastFrame, said, run}
use Rattle.trace_text.specs.declared.frame.End.{End}
use Rattle.line_laws.specs.Budget.{EndTime}
use Rattle.line_laws.specs.Core.{Core, Side, Station, Waiting, key_now}
use Rattle.line_laws.specs.Trace.{NoAck, IsAcknowledged, TraceFacts}

-- What an end knows of its newest fragment: how often it was sent and that no acknowledgement of it
-- was taken, or the frame that acknowledged it.
pub record Knows (X Y : End) (past : List PastFrame) (cy : ℕ) (x : Side) (tries : ℕ) : Type 0 where
  pub run_is : Waiting x → run X past ≡ tries
  pub none : Waiting x → NoAck X Y past cy (key_now x)
  pub done : (Waiting x → ⊥) → 0 < length (said X past) → IsAcknowledged X Y past cy

-- both ends, the frames so far, up to which of them those that are late are let go, and the tries
-- of both ends
pub record Line (X Y : End) (past : List PastFrame) (released : ℕ) (x y : Station) (tx ty : ℕ)
    : Type 0 where
  pub core : Core X Y past x y
  pub x_time : EndTime X Y past x.taken y.taken released x.speaker.side tx
  pub y_time : EndTime Y X past y.taken x.taken released y.speaker.side ty
  pub inside : released ≤ length past
  pub traced : TraceFacts X Y past x.taken y.taken released
  pub x_knows : Knows X Y past y.taken x.speaker.side tx
  pub y_knows : Knows Y X past x.taken y.speaker.side ty
