-- Packets that are put on one way of a cable, and lost there.
use Rattle.std.specs.Prelude.{◌≡◌, List, ◌++◌}
use Rattle.slp_frames.specs.PacketText.{PacketValue}

-- the first of these packets were put behind the others
pub record PutsFront (packets old new : List PacketValue) : Type 0 where
  pub front : List PacketValue
  pub later : List PacketValue
  pub packets_are : packets ≡ front ++ later
  pub new_is : new ≡ old ++ front

-- the oldest packets were dropped
pub record LosesFront (old new : List PacketValue) : Type 0 where
  pub lost : List PacketValue
  pub old_is : old ≡ lost ++ new
