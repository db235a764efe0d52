-- What a packet is for the end that it comes to, by its sockets, its type and its body
-- (pilot-link's pi-slp.h and padp.c).
use Rattle.std.specs.Prelude.{◌≡◌, ℕ, Bool, ◌&&◌, nat_eq, is_none, if◌then◌else◌}
use Rattle.slp_frames.specs.PacketText.{PacketValue}
use Rattle.padp_link.specs.declared.arrival.Arrived.{Arrived}
use Rattle.padp_link.specs.declared.arrival.Arrived.TheVariants as arrived
use Rattle.padp_link.specs.declared.fragment.PadpKind.{PadpKind}
use Rattle.padp_link.specs.declared.fragment.PadpKind.TheVariants as kind
use Rattle.padp_link.specs.declared.piece.Key.{Key}
use Rattle.padp_link.specs.FragmentFaults.{fragment_fault}
use Rattle.padp_link.specs.FragmentText.{FragmentValue, IsFragment}
use Rattle.padp_link.specs.FragmentValues.{fragment_value}
use Rattle.padp_link.specs.Numbers.{dlp_socket, padp_type}
use Rattle.padp_link.specs.Pieces.{key_of}
use Rattle.trace_text.specs.Frames.{fields_of}

-- nothing, a sign of life, the end of the connection, the acknowledgement of the data fragment with
-- this key, or a data fragment of a transaction
pub data Arrival : Type 0 where
  Drop : Arrival
  Tickle : Arrival
  Stop : Arrival
  Ack : Key → Arrival
  Data : ℕ → FragmentValue → Arrival

-- what a fragment of this kind is
abbrev pub arrival_as : PadpKind → ℕ → FragmentValue → Arrival
arrival_as kind.Data id fragment = Data id fragment
arrival_as kind.Ack id fragment = Ack (key_of id fragment)
arrival_as kind.Tickle id fragment = Tickle
arrival_as kind.Abort id fragment = Stop

-- it goes to the socket of the link, is of the protocol's type, and its body is the text of a
-- fragment
abbrev pub is_bearing : PacketValue → Bool
is_bearing packet =
    nat_eq packet.dest dlp_socket && nat_eq packet.kind padp_type
    && is_none (fragment_fault packet.body)

-- what a packet is
unfoldable pub arrival_of : PacketValue → Arrival
arrival_of packet =
    if is_bearing packet
    then arrival_as (fields_of packet.body).kind packet.id (fields_of packet.body) else Drop

-- the program's answer as this
abbrev pub arrival_value : Arrived → Arrival
arrival_value arrived.Drop = Drop
arrival_value arrived.Tickle = Tickle
arrival_value arrived.Stop = Stop
arrival_value (arrived.Ack key) = Ack key
arrival_value (arrived.Data id fragment) = Data id (fragment_value fragment)

-- where it is data, its fragment is one of the protocol
abbrev pub IsDataArrival : Arrived → Type 0
IsDataArrival (arrived.Data id fragment) =
    IsFragment (fragment_value fragment) × (fragment.kind ≡ kind.Data)
IsDataArrival _ = Unit {0}
