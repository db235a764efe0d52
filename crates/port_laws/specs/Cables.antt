-- Two ends with a cable between them, which loses packets and keeps the order of the others: what
-- holds of both ends and of the packets under way, whenever either of them takes a packet or says a
-- piece once more (pilot-link's padp.c).
use Rattle.std.specs.Prelude.{◌≡◌, ◌⊎◌, ◌≤◌, ◌<◌, ℕ, false, ◌+◌, ◌-◌, min, List, [], ◌∷◌, length, map, Some, None}
use Rattle.padp_end.specs.Arrivals.{Arrival, Drop, Tickle, Stop, Ack, Data, arrival_of}
use Rattle.padp_end.specs.Ends.{EndValue, is_acked}
use Rattle.padp_end.specs.Outgoings.{OutgoingFragment, piece_said}
use Rattle.padp_link.specs.Collecting.{taken_pieces}
use Rattle.padp_link.specs.FragmentText.{FragmentValue, FragmentText, fragment_text}
use Rattle.padp_link.specs.Pieces.{key_of, piece_count, piece_of}
use Rattle.padp_link.specs.Senders.{SenderValue, waiting}
use Rattle.padp_link.specs.declared.fragment.PadpKind.TheVariants as kind
use Rattle.padp_link.specs.declared.piece.Key.{Key}
use Rattle.padp_link.specs.declared.piece.Piece.{Piece}
use Rattle.slp_frames.specs.PacketText.{PacketValue}

-- ---- ends and packets

-- how many pieces of the other end an end took, and how many of its own it began, over all messages
pub record Count : Type 0 where
  pub taken : ℕ
  pub begun : ℕ

-- an end, with its count
pub record Side : Type 0 where
  pub end : EndValue
  pub count : Count

-- a packet under way, and the count of its sender when it was said
pub record Parcel : Type 0 where
  pub packet : PacketValue
  pub at : Count

-- the packet that bears a fragment: between the sockets 3, of type 2
abbrev pub packet_of : OutgoingFragment → PacketValue
packet_of outgoing = record {
  dest = 3;
  source = 3;
  kind = 2;
  id = outgoing.id;
  body = fragment_text outgoing.fragment;
}

-- what is said, as packets
abbrev pub packets_of : List OutgoingFragment → List PacketValue
packets_of said = map packet_of said

-- what is said with this count
abbrev pub parcels : Count → List OutgoingFragment → List Parcel
parcels count said = map (λ outgoing. record { packet = packet_of outgoing; at = count }) said

-- the packets without their stamps
abbrev pub packets_in : List Parcel → List PacketValue
packets_in queue = map (λ (each : Parcel). each.packet) queue

-- ---- the newest piece of an end

-- its number in its message: the piece that waits, or behind the last one that one
abbrev pub number_now : SenderValue → ℕ
number_now sender = min sender.acknowledged (piece_count sender.length - 1)

abbrev pub piece_now : SenderValue → Piece
piece_now sender = piece_of sender.id sender.length (number_now sender)

abbrev pub key_now : SenderValue → Key
key_now sender = (piece_now sender).key

-- an end sends a message that isn't too long
pub record Sends (end : EndValue) : Type 0 where
  pub length_is : end.sender.length ≡ length end.message
  pub short : length end.message ≤ 65535
  pub within : end.sender.acknowledged ≤ piece_count end.sender.length

-- y took the whole message of x
pub record IsOver (x y : Side) : Type 0 where
  pub all : y.count.taken ≡ x.count.begun
  pub last : piece_count x.end.sender.length ≤ x.end.sender.acknowledged + 1

-- y took all that x began but its newest piece
abbrev pub IsAhead : Side → Side → Type 0
IsAhead x y = x.count.begun ≡ y.count.taken + 1

-- ---- what x said and y hasn't heard

-- one count isn't above the other
pub record AtMost (a b : Count) : Type 0 where
  pub taken : a.taken ≤ b.taken
  pub begun : a.begun ≤ b.begun

-- the stamps never fall, from the one count to the other
abbrev pub Rise : Count → List Parcel → Count → Type 0
Rise low [] high = AtMost low high
Rise low (each ∷ later) high = AtMost low each.at × Rise each.at later high

-- an acknowledgement by x: of the newest piece of y, or one that doesn't count for that one
pub record AcksPiece (x y : Side) (at : Count) (key : Key) : Type 0 where
  pub any : ¬ (at.taken ≡ 0)
  pub newest : at.taken ≡ y.count.begun → key ≡ key_now y.end.sender
  pub older : at.taken + 1 ≡ y.count.begun → is_acked (Some (key_now y.end.sender)) key ≡ false

-- a piece of x: the last one that y took, or the newest one of x. While x is ahead, x hasn't taken
-- anything since it began that one.
pub record IsPiece (x y : Side) (at : Count) (id : ℕ) (fragment : FragmentValue) : Type 0 where
  pub known : at.begun ≡ y.count.taken → y.end.receiver.last ≡ Some (key_of id fragment)
  pub newest : at.begun ≡ x.count.begun → record { id = id; fragment = fragment }
      ≡ piece_said x.end.message (piece_now x.end.sender)
  pub since : IsAhead x y → at.begun ≡ x.count.begun → at.taken ≡ x.count.taken
  pub text : FragmentText fragment (fragment_text fragment)
  pub kind_is : fragment.kind ≡ kind.Data
  pub flags_fit : fragment.flags < 256

-- what a packet of x bears for y
abbrev pub BearsFor : Side → Side → Count → Arrival → Type 0
BearsFor x y at Drop = Unit {0}
BearsFor x y at Tickle = Unit {0}
BearsFor x y at Stop = Unit {0}
BearsFor x y at (Ack key) = AcksPiece x y at key
BearsFor x y at (Data id fragment) = IsPiece x y at id fragment

-- all packets bear such
abbrev pub AllBear : Side → Side → List Parcel → Type 0
AllBear x y [] = Unit {0}
AllBear x y (each ∷ later) = BearsFor x y each.at (arrival_of each.packet) × AllBear x y later

-- ---- what y knows of x

-- the last piece that y took is the newest one of x, or where x is ahead one whose acknowledgement
-- doesn't count for that one
pub record Knows (x y : Side) : Type 0 where
  pub none : y.count.taken ≡ 0 → y.end.receiver.last ≡ None
  pub quiet : x.count.begun ≡ 0 → waiting x.end.sender ≡ None
  pub newest : x.count.begun ≡ y.count.taken → ¬ (x.count.begun ≡ 0)
      → y.end.receiver.last ≡ Some (key_now x.end.sender)
  pub older : IsAhead x y → (key : Key) → y.end.receiver.last ≡ Some key
      → is_acked (Some (key_now x.end.sender)) key ≡ false

-- how many pieces of the message of x were taken by y
abbrev pub part_count : Side → Side → ℕ
part_count x y = number_now x.end.sender + 1 + y.count.taken - x.count.begun

-- while y takes a message of x, its receiver has the first pieces of it
abbrev pub HasParts : Side → Side → Type 0
HasParts x y =
    0 < part_count x y → part_count x y < piece_count x.end.sender.length
    → y.end.receiver.pieces ≡ taken_pieces (length x.end.message) (part_count x y) x.end.message

-- One way of the cable. No data under way is older than the last piece that y took, and no
-- acknowledgement is older than for the piece of y before its newest one, or for that one where it
-- waits no more.
pub record Way (x y : Side) (queue : List Parcel) : Type 0 where
  pub taken : y.count.taken ≤ x.count.begun
  pub begun : x.count.begun ≤ y.count.taken + 1
  pub low : ℕ
  pub low_is : y.count.begun ≤ low + 1
  pub answered : waiting y.end.sender ≡ None → y.count.begun ≤ low
  pub rise : Rise (record { taken = low; begun = y.count.taken }) queue x.count
  pub bear : AllBear x y queue
  pub knows : Knows x y
  pub parts : HasParts x y

-- ---- both ways

-- Both ends, with what is under way from x to y and back: one of their messages at least was taken
-- whole.
pub record Cable (x y : Side) (there back : List Parcel) : Type 0 where
  pub x_sends : Sends x.end
  pub y_sends : Sends y.end
  pub there_is : Way x y there
  pub back_is : Way y x back
  pub one : IsOver x y ⊎ IsOver y x
