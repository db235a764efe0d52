-- The packet that is heard.
use Rattle.line_steps.proofs.Names.{rules, ◌≡◌, ℕ, List, [], ◌∷◌, ◌++◌, Option, Some, None, PacketValue, handed_out, PacketLent, Bears}
use Rattle.line_steps.proofs.Names.{FragmentValue, FragmentText, fragment_text}
use Rattle.line_steps.proofs.BytesLaws.{packet_of}

pub record IsPacketWith (packet : PacketLent) (id : ℕ) (fragment : FragmentValue) : Type 0 where
  pub bears : Bears packet.dest packet.kind packet.body.now fragment
  pub id_is : packet.id ≡ id

pub heard_packet : {packet : PacketLent} {id : ℕ} {fragment : FragmentValue} {result : Option PacketLent} (later : List PacketValue)
    → FragmentText fragment (fragment_text fragment) → packet_of id fragment ∷ [] ≡ handed_out result ++ later → result ≡ Some packet
    → IsPacketWith packet id fragment
heard_packet later text found is = search rules

pub heard_none : {packet : PacketValue} {result : Option PacketLent} {later : List PacketValue} → packet ∷ [] ≡ handed_out result ++ later → result ≡ None
    → later ≡ [] → ⊥
heard_none found is none = search rules
