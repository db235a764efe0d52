-- A frame more on the line.
use Rattle.std.specs.Prelude.{◌≡◌, ℕ, ◌+◌, false, true, List, [], ◌∷◌, ◌++◌, length, Option, Some, None}
use Rattle.padp_link.specs.FragmentText.{FragmentValue, FragmentText, fragment_text}
use Rattle.padp_link.specs.declared.fragment.PadpKind.TheVariants as kind
use Rattle.padp_link.specs.declared.piece.Key.{Key}
use Rattle.trace_text.specs.declared.frame.End.{End}
use Rattle.trace_text.specs.declared.frame.Frame.{Frame}
use Rattle.trace_text.specs.Fates.{FateValue, fate_value, is_stop, holds_packet, strange_bytes, ends_run}
use Rattle.trace_text.specs.Fates as fate
use Rattle.trace_text.specs.Frames.{padp_packet}
use Rattle.line_steps.specs.declared.harm.Stop.{Stop}
use Rattle.line_steps.specs.declared.harm.Stop.TheVariants.{Unplugged, Aborted, Undetected}
use Rattle.line_steps.specs.declared.sending.Halt.{Halt}
use Rattle.line_steps.specs.declared.sending.Halt.TheVariants.{NoMemory, Stopped, Down}

-- the run ends with a frame of this fate and these bytes, for this reason, or goes on
abbrev pub StopsBy : FateValue → List ℕ → Option Stop → Type 0
StopsBy given bytes None = ends_run given bytes ≡ false
StopsBy given bytes (Some Unplugged) = given ≡ fate.Unplug
StopsBy given bytes (Some Aborted) = given ≡ fate.Abort
StopsBy given bytes (Some Undetected) =
    (is_stop given ≡ false) × (holds_packet (strange_bytes given bytes) ≡ true)

-- what an abort packet bears
abbrev pub abort_fragment : FragmentValue
abort_fragment = record { kind = kind.Abort; flags = 0xC0; size = 0; bytes = [] }

-- the fragment of the frame: an abort stands in the place of the one that was to be sent
abbrev pub in_place : Option Stop → FragmentValue → FragmentValue
in_place (Some Aborted) fragment = abort_fragment
in_place stop fragment = fragment

-- the acknowledgement of the data fragment with this key
abbrev pub ack_fragment : Key → FragmentValue
ack_fragment key = record { kind = kind.Ack; flags = key.flags; size = key.size; bytes = [] }

-- one frame more, by this end, with this fragment in a packet of this transaction: the run ends
-- with it for this reason, or goes on
pub record Sends (old : List Frame) (from : End) (id : ℕ) (fragment : FragmentValue)
    (given : FateValue) (stop : Option Stop) (new : List Frame) : Type 0 where
  pub frame : Frame
  pub is : new ≡ old ++ frame ∷ []
  pub number_is : frame.number ≡ length old + 1
  pub from_is : frame.from ≡ from
  pub fate_is : fate_value frame.fate ≡ given
  pub came_is : frame.came ≡ false
  pub bytes_are : frame.bytes.items ≡ padp_packet id (in_place stop fragment)
  pub text : FragmentText (in_place stop fragment) (fragment_text (in_place stop fragment))
  pub stops : StopsBy given (padp_packet id fragment) stop

-- the run halts: memory ran out before the frame was sent, or the run ends with it
abbrev pub Halts : List Frame → End → ℕ → FragmentValue → FateValue → Halt → List Frame → Type 0
Halts old from id fragment given NoMemory new = new ≡ old
Halts old from id fragment given (Stopped stop) new =
    Sends old from id fragment given (Some stop) new
Halts old from id fragment given (Down end) new = ⊥
