-- What a running line promises of its trace.
use Rattle.std.specs.Prelude.{ℕ, ◌+◌, ◌-◌, ◌≤◌, ◌<◌, List, length}
use Rattle.padp_link.specs.Receivers.{ReceiverValue}
use Rattle.trace_text.specs.Fates.{FateValue}
use Rattle.trace_text.specs.Faults.{faulted, count}
use Rattle.trace_text.specs.Past.{PastFrame, at}
use Rattle.trace_text.specs.Proper.{IsProper}
use Rattle.trace_text.specs.Talks.{Talk}
use Rattle.trace_text.specs.TraceLines.{FrameValue}
use Rattle.trace_text.specs.declared.frame.End.{End}
use Rattle.trace_text.specs.declared.frame.End.TheVariants.{Handheld, Desktop}
use Rattle.line_laws.specs.Core.{Speaker, Station, Waiting, station}
use Rattle.line_laws.specs.Framing.{FrameFacts}
use Rattle.line_laws.specs.Line.{Line}
use Rattle.line_laws.specs.Progress.{IsBlocked}
use Rattle.line_laws.specs.Talking.{Talking}

-- its frames are a proper trace
abbrev pub HasProperTrace : Type 0
HasProperTrace =
    (script : ℕ → FateValue) (talk : Talk) (cursor : End → ℕ) (frames : List FrameValue)
    (past : List PastFrame) (released : ℕ) (h d : Speaker) (rh rd : ReceiverValue) (th td : ℕ)
    → Line Handheld Desktop past released (station h (cursor Handheld) rh)
    (station d (cursor Desktop) rd) th td
    → Talking Handheld Desktop talk cursor past h d
    → FrameFacts script cursor frames past → IsProper script talk frames

-- where an end waits with its last try and nothing can be delivered, ten faults stand among the
-- last 53 frames
abbrev pub HasTenFaults : Type 0
HasTenFaults =
    (X Y : End) (past : List PastFrame) (released : ℕ) (x y : Station) (ty : ℕ)
    → Line X Y past released x y 10 ty → Waiting x.speaker.side
    → IsBlocked X past x.taken released → IsBlocked Y past y.taken released
    → (first : ℕ) × (0 < first) × (length past < first + 53)
    × (10 + count faulted (at (first - 1) past) ≤ count faulted past)
