-- What the last frame of a run says of its status.
use Rattle.std.specs.Prelude.{◌≡◌, ◌⊎◌, List, length, Some}
use Rattle.trace_text.specs.TraceLines.{FrameValue}
use Rattle.line_steps.specs.declared.harm.Stop.{Stop}
use Rattle.line_world.specs.Stops.{EndsBy, stop_cause}
use Rattle.call_parts.specs.Causes.{down_status}
use Rattle.cmd_status.specs.declared.status.Status.{Status}
use Rattle.cmd_status.specs.declared.status.Status.TheVariants.{NoMemory}

-- Where the run ends with the last of these frames, whatever the reason, the status is that of this
-- reason and names that frame, unless memory ran out.
abbrev pub TellsStop : Status → List FrameValue → Type 0
TellsStop status frames =
    (why : Stop) → EndsBy why frames
    → (status ≡ down_status (Some (stop_cause why (length frames)))) ⊎ (status ≡ NoMemory)
