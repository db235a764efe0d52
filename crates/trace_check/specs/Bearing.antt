-- What the bytes of a frame are: a packet, and a fragment in it.
use Rattle.std.specs.Prelude.{◌≡◌, ℕ, List}
use Rattle.slp_frames.specs.PacketText.{PacketValue, packet_text, HasText}
use Rattle.padp_link.specs.FragmentText.{FragmentValue, FragmentText, fragment_text}
use Rattle.trace_text.specs.Frames.{padp_packet}

-- the bytes are the text of this packet, and nothing else
pub record IsPacket (bytes : List ℕ) (packet : PacketValue) : Type 0 where
  pub has_text : HasText packet
  pub is : bytes ≡ packet_text packet

-- the bytes are the packet of this transaction with this fragment
pub record Bears (bytes : List ℕ) (id : ℕ) (fragment : FragmentValue) : Type 0 where
  pub text : FragmentText fragment (fragment_text fragment)
  pub is : bytes ≡ padp_packet id fragment
