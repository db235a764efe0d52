-- Both ends of a line by the parts of their stations.
use Rattle.std.specs.Prelude.{ℕ, Bool, List}
use Rattle.padp_link.specs.Receivers.{ReceiverValue}
use Rattle.trace_text.specs.Past.{PastFrame}
use Rattle.trace_text.specs.Talks.{Talk}
use Rattle.trace_text.specs.declared.frame.End.{End}
use Rattle.line_laws.specs.Core.{Core, Side, speaker, station}
use Rattle.line_laws.specs.Line.{Line}
use Rattle.line_laws.specs.Talking.{Talking}

abbrev pub CoreAt : End → End → List PastFrame → ℕ → ℕ → Side → Side → ReceiverValue → ReceiverValue → Bool → Bool → Type 0
CoreAt X Y past cx cy x y rx ry fx fy = Core X Y past (station (speaker x fx) cx rx) (station (speaker y fy) cy ry)

abbrev pub LineAt : End → End → List PastFrame → ℕ → ℕ → ℕ → Side → Side → ReceiverValue → ReceiverValue → Bool → Bool → ℕ → ℕ → Type 0
LineAt X Y past cx cy released x y rx ry fx fy tx ty = Line X Y past released (station (speaker x fx) cx rx) (station (speaker y fy) cy ry) tx ty

abbrev pub TalkingAt : End → End → Talk → (End → ℕ) → List PastFrame → Side → Side → Bool → Bool → Type 0
TalkingAt X Y talk cursor past x y fx fy = Talking X Y talk cursor past (speaker x fx) (speaker y fy)
