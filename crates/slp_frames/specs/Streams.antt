-- A stream that is read by a reader and handed on packet by packet.
use Rattle.std.specs.Prelude.{◌≡◌, ℕ, ◌<◌, List, [], ◌++◌, length}
use Rattle.slp_frames.specs.PacketText.{PacketValue}
use Rattle.slp_frames.specs.PacketScan.{scan}
use Rattle.slp_frames.specs.Histories.{Continues}
use Rattle.slp_frames.specs.Numbers.{max_packet}

-- `now` is `first` and the packets that a reader handed out which took these bytes and holds these
pub record Gains (taken : List ℕ) (first now : List PacketValue) (held : List ℕ) : Type 0 where
  pub handed : List PacketValue
  pub is : now ≡ first ++ handed
  pub continues : Continues taken handed held

-- `now` is `first` and packets that begin the scan of these bytes, whatever follows them
pub record GainsFront (taken : List ℕ) (first now : List PacketValue) : Type 0 where
  pub handed : List PacketValue
  pub is : now ≡ first ++ handed
  pub front : (more : List ℕ)
      → (later : List PacketValue) × (scan (taken ++ more) ≡ handed ++ later)

-- no packet is held, and there is room
pub record IsDrained (held : List ℕ) : Type 0 where
  pub all : scan held ≡ []
  pub room : length held < max_packet
