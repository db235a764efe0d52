-- What comes from a handheld over a cable, byte for byte.
use Rattle.std.specs.Prelude.{◌≡◌, ℕ, List, [], ◌∷◌, ◌++◌, take}
use Rattle.slp_frames.specs.Histories.{Continues}
use Rattle.slp_frames.specs.PacketScan.{scan}
use Rattle.slp_frames.specs.PacketText.{PacketValue, packet_text}

-- the packets that come, the oldest first, and what came of the first one
pub record ComingValue : Type 0 where
  pub packets : List PacketValue
  pub part : List ℕ

-- so many bytes of the first packet
abbrev pub front_of : ℕ → List PacketValue → List ℕ
front_of given [] = []
front_of given (packet ∷ later) = take given (packet_text packet)

-- what came of it holds no packet, and nothing came of none
pub record IsGiven (given : ℕ) (packets : List PacketValue) : Type 0 where
  pub part_open : scan (front_of given packets) ≡ []
  pub none : packets ≡ [] → given ≡ 0

-- these bytes came: they end the oldest packet, or stand in it
pub record GivesBytes (bytes : List ℕ) (old new : ComingValue) : Type 0 where
  pub packets : List PacketValue
  pub old_is : old.packets ≡ packets ++ new.packets
  pub continues : Continues (old.part ++ bytes) packets new.part
  pub part_open : scan new.part ≡ []
