-- A run that ends with its last frame: what stands in that frame, and the cause that this is.
use Rattle.std.specs.Prelude.{◌≡◌, ℕ, List, [], ◌∷◌, ◌++◌, Some}
use Rattle.std.specs.List.{AllByRecursion}
use Rattle.line_laws.specs.Framing.{RunsOn}
use Rattle.line_steps.specs.Sending.{StopsBy, abort_fragment}
use Rattle.line_steps.specs.declared.harm.Stop.{Stop}
use Rattle.line_steps.specs.declared.harm.Stop.TheVariants as stop
use Rattle.trace_text.specs.Frames.{fragment_in}
use Rattle.trace_text.specs.TraceLines.{FrameValue}
use Rattle.line_world.specs.declared.down.Down.{Down}
use Rattle.line_world.specs.declared.down.Down.TheVariants as down

-- the run ends with the last of these frames, for this reason
pub record EndsBy (stop : Stop) (frames : List FrameValue) : Type 0 where
  pub before : List FrameValue
  pub last : FrameValue
  pub is : frames ≡ before ++ last ∷ []
  pub stops : StopsBy last.fate last.bytes (Some stop)

-- it goes on behind each of them
abbrev pub AllRunOn : List FrameValue → Type 0
AllRunOn frames = AllByRecursion RunsOn frames

-- the abort packet stands in the place of the last of them
pub record EndsInAbort (frames : List FrameValue) : Type 0 where
  pub before : List FrameValue
  pub last : FrameValue
  pub is : frames ≡ before ++ last ∷ []
  pub fragment_is : fragment_in last ≡ abort_fragment

-- the cause of a run that ends with the last of so many frames, for this reason
abbrev pub stop_cause : Stop → ℕ → Down
stop_cause stop.Unplugged count = down.Unplugged count
stop_cause stop.Aborted count = down.Aborted count
stop_cause stop.Undetected count = down.Undetected count
