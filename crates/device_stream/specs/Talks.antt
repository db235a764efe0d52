-- A talk over packets, one after the other.
use Rattle.std.specs.Prelude.{◌≡◌, ℕ, Bool, List, [], ◌∷◌, ◌++◌, None}
use Rattle.handheld_server.specs.Servers.{ServerValue}
use Rattle.padp_end.specs.Outgoings.{OutgoingFragment}
use Rattle.slp_frames.specs.PacketText.{PacketValue}
use Rattle.device_stream.specs.Hands.{Hand, MayServe, taken_by}

-- it takes a packet, says this, and is this then: a new record gets any free id, all else is
-- determined. A talk that is over takes nothing.
pub record Takes (old : Hand) (packet : PacketValue) (said : List OutgoingFragment)
    (new : Hand) : Type 0 where
  pub going : old.over ≡ None
  pub free : ℕ
  pub may : MayServe old packet free
  pub is : taken_by old free packet ≡ (said, new)

-- it takes these packets in order
abbrev pub Talks : Hand → List PacketValue → List OutgoingFragment → Hand → Type 0
Talks old [] said new = (said ≡ []) × (new ≡ old)
Talks old (packet ∷ packets) said new =
    (first : List OutgoingFragment) × (later : List OutgoingFragment) × (between : Hand)
    × (said ≡ first ++ later) × Takes old packet first between
    × Talks between packets later new

-- a talk of the program: the folder, the hand, and whether the folder stands for the hand's device
pub record TalkValue (F : Type 0) : Type 0 where
  pub folder : F
  pub hand : Hand
  pub sound : Bool

-- the server of a talk
abbrev pub talk_server : {F : Type 0} → TalkValue F → ServerValue F
talk_server talk = record { folder = talk.folder; device = talk.hand.device; sound = talk.sound }
