-- A handheld behind a cable that keeps four rules. The cable loses and damages packets, and neither
-- reorders nor doubles any; what is damaged fails a checksum, so that no packet comes that wasn't
-- sent; the handheld knows a repeat, performs a whole request once and says its reply under the
-- request's transaction until it is acknowledged; it answers as its device's table says, and
-- changes by nothing but requests. It may break down at any request, which it leaves undone.
use Rattle.std.specs.Prelude.{◌≡◌, ◌≤◌, ℕ, Bool, true, false, ◌&&◌, not, nat_eq, is_none, List, [], ◌∷◌, ◌++◌, length, Option, Some, None}
use Rattle.palm_device.specs.Bounds.{IsBounded}
use Rattle.palm_device.specs.Soundness.{IsDevice}
use Rattle.port_laws.specs.Cables.{packets_of}
use Rattle.device_stream.specs.Hands.{Hand, waited_by, with_end}
use Rattle.device_stream.specs.Talks.{Takes}
use Rattle.padp_end.specs.Ends.{end_takes}
use Rattle.padp_end.specs.Outgoings.{OutgoingFragment}
use Rattle.padp_link.specs.Receivers.{is_awaited}
use Rattle.slp_frames.specs.Histories.{Continues}
use Rattle.slp_frames.specs.PacketScan.{scan}
use Rattle.slp_frames.specs.PacketText.{PacketValue}

-- the handheld, the packets that the desktop said and the handheld hasn't heard, those that the
-- handheld said and the desktop hasn't heard, the oldest first, and the bytes of a packet that has
-- begun to come
pub record Palm : Type 0 where
  pub hand : Hand
  pub toward : List PacketValue
  pub back : List PacketValue
  pub part : List ℕ

-- ---- what happens by itself

-- a packet of a list is lost
pub record LosesOne (old new : List PacketValue) : Type 0 where
  pub before : List PacketValue
  pub packet : PacketValue
  pub after : List PacketValue
  pub old_is : old ≡ before ++ packet ∷ after
  pub new_is : new ≡ before ++ after

-- the oldest packet comes to the handheld, which says something, in messages of at most 65,535
-- bytes
pub record HandTakes (old new : Palm) : Type 0 where
  pub packet : PacketValue
  pub later : List PacketValue
  pub said : List OutgoingFragment
  pub hand : Hand
  pub toward_is : old.toward ≡ packet ∷ later
  pub takes : Takes old.hand packet said hand
  pub short : length hand.end.message ≤ 65535
  pub new_is : new ≡ record {
    hand = hand;
    toward = later;
    back = old.back ++ packets_of said;
    part = old.part;
  }

-- The oldest packet comes to a handheld that breaks down: its end takes the packet, and nothing
-- else is done about it, so that a request that is whole with it is never performed.
pub record HandStops (old new : Palm) : Type 0 where
  pub packet : PacketValue
  pub later : List PacketValue
  pub toward_is : old.toward ≡ packet ∷ later
  pub new_is : new ≡ record {
    hand = with_end old.hand (end_takes old.hand.end packet).end;
    toward = later;
    back = old.back ++ packets_of (end_takes old.hand.end packet).said;
    part = old.part;
  }

-- the handheld says its piece that waits once more
abbrev pub with_repeat : Palm → Palm
with_repeat palm = record {
  hand = (waited_by palm.hand).1;
  toward = palm.toward;
  back = palm.back ++ packets_of (waited_by palm.hand).0;
  part = palm.part;
}

-- what may happen by itself, at any time
pub data Moves (old new : Palm) : Type 0 where
  LosesToward : (toward : List PacketValue) → LosesOne old.toward toward
      → new ≡ record old { toward = toward } → Moves old new
  LosesBack : (back : List PacketValue) → LosesOne old.back back
      → new ≡ record old { back = back } → Moves old new
  TakesNext : HandTakes old new → Moves old new
  Stops : HandStops old new → Moves old new
  Repeats : new ≡ with_repeat old → Moves old new

-- the same any number of times, with what is between
abbrev pub AllMove : Palm → List Palm → Palm → Type 0
AllMove old [] new = new ≡ old
AllMove old (between ∷ later) new = Moves old between × AllMove between later new

abbrev pub MovesOn : Palm → Palm → Type 0
MovesOn old new = (between : List Palm) × AllMove old between new

-- ---- what a port does

-- the port is told as this, where it is told
abbrev pub IsTold : (Palm → Palm → Type 0) → Option Palm → Option Palm → Type 0
IsTold Goes None new = new ≡ None
IsTold Goes (Some old) new = (palm : Palm) × Goes old palm × (new ≡ Some palm)

-- these packets are said toward the handheld, and anything happens: some of them are lost, maybe
abbrev pub HearsOf : List PacketValue → Palm → Palm → Type 0
HearsOf packets old new = MovesOn (record old { toward = old.toward ++ packets }) new

-- Anything happens, and then these bytes come: they end the packets that were the oldest, and begin
-- another one maybe.
pub record Gives (bytes : List ℕ) (old new : Palm) : Type 0 where
  pub between : Palm
  pub moves : MovesOn old between
  pub packets : List PacketValue
  pub back_is : between.back ≡ packets ++ new.back
  pub continues : Continues (between.part ++ bytes) packets new.part
  pub part_open : scan new.part ≡ []
  pub hand_is : new.hand ≡ between.hand
  pub toward_is : new.toward ≡ between.toward

-- ---- at the opening

abbrev pub is_nil : {X : Type 0} → List X → Bool
is_nil {X} [] = true
is_nil {X} (x ∷ xs) = false

-- the handheld says its wake, of one piece, and was never answered
abbrev pub is_woken : Hand → Bool
is_woken hand =
    not hand.greeted && is_none hand.over && is_nil hand.performed
    && is_nil hand.replies
    && is_awaited hand.end.receiver.awaited 255 && is_nil hand.end.receiver.pieces
    && is_none hand.end.receiver.last
    && nat_eq hand.end.sender.id 255 && nat_eq hand.end.sender.length 10
    && nat_eq hand.end.sender.acknowledged 0 && nat_eq (length hand.end.message) 10

-- and nothing is under way
abbrev pub is_first : Palm → Bool
is_first palm = is_woken palm.hand && is_nil palm.toward && is_nil palm.back && is_nil palm.part

-- its device is sound, and keeps the bounds of its types, as ours does
abbrev pub IsOurs : Hand → Type 0
IsOurs hand = IsDevice hand.device × IsBounded hand.device

-- a palm that is told is a first one, and ours
abbrev pub IsFirstTold : Option Palm → Type 0
IsFirstTold None = Unit {0}
IsFirstTold (Some palm) = (is_first palm ≡ true) × IsOurs palm.hand
