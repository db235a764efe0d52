-- How long the packets are that an end says.
use Rattle.std.proofs.Common.{◌≡◌, ℕ, ◌+◌, [], ◌∷◌, length, arith}
use Rattle.std.proofs.lemmas.List.{length-append}
use Rattle.slp_frames.proofs.PlaceLaws.{length-packet_text}
use Rattle.padp_link.specs.FragmentText.{FragmentValue, fragment_text}
use Rattle.padp_link.specs.declared.piece.Key.{Key}
use Rattle.trace_text.specs.Frames.{padp_packet}
use Rattle.padp_end.specs.Outgoings.{acknowledgement, said_text}

-- a packet has 16 bytes beside the part of the message
pub packet_length : (id : ℕ) (fragment : FragmentValue) → length (padp_packet id fragment) ≡ length fragment.bytes + 16
packet_length id fragment = omega (arith, length-packet_text (record { dest = 3; source = 3; kind = 2; id = id; body = fragment_text fragment }))

-- an acknowledgement has 16
pub acknowledgement_length : (key : Key) → length (said_text (acknowledgement key ∷ [])) ≡ 16
acknowledgement_length key =
    omega (
      arith,
      length-append (padp_packet key.id (acknowledgement key).fragment) [],
      packet_length key.id (acknowledgement key).fragment,
    )
