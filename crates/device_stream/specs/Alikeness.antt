-- Hands that differ in what they performed alone, and say the same.
use Rattle.std.specs.Prelude.{◌≡◌, ◌+◌, ◌++◌, List, length}
use Rattle.padp_end.specs.Outgoings.{OutgoingFragment}
use Rattle.padp_link.specs.Neighbours.{session_id}
use Rattle.slp_frames.specs.PacketText.{PacketValue}
use Rattle.device_stream.specs.Hands.{Hand}
use Rattle.device_stream.specs.Talks.{Takes, Talks}

-- Two hands are alike but for the texts of what they performed and replied: the next request has
-- the same transaction for both, so their numbers of requests differ by whole rounds of 253.
pub record Alike (x y : Hand) : Type 0 where
  pub device_is : y.device ≡ x.device
  pub end_is : y.end ≡ x.end
  pub greeted_is : y.greeted ≡ x.greeted
  pub over_is : y.over ≡ x.over
  pub next_is : session_id (length y.performed + 1) ≡ session_id (length x.performed + 1)

-- two hands said the same, and are alike then
pub record SaysAlike (x y : List OutgoingFragment × Hand) : Type 0 where
  pub said_is : y.0 ≡ x.0
  pub alike : Alike x.1 y.1

-- a hand takes the packet too, says the same, and is then alike this one
pub record TakesAlike (hand : Hand) (packet : PacketValue) (said : List OutgoingFragment)
    (new : Hand) : Type 0 where
  pub other : Hand
  pub takes : Takes hand packet said other
  pub alike : Alike new other

-- a hand takes the packets too, says the same, and is then alike this one
pub record TalksAlike (hand : Hand) (packets : List PacketValue) (said : List OutgoingFragment)
    (new : Hand) : Type 0 where
  pub other : Hand
  pub talks : Talks hand packets said other
  pub alike : Alike new other

-- Whatever a hand talks over from here on, another hand that talked over these packets before would
-- talk over them all.
abbrev pub GoesOnFrom : Hand → List PacketValue → List OutgoingFragment → Hand → Type 0
GoesOnFrom first packets said made =
    (later : List PacketValue) (more : List OutgoingFragment) (new : Hand)
    → Talks made later more new → TalksAlike first (packets ++ later) (said ++ more) new
