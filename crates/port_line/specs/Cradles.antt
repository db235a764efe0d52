-- A handheld in its cradle, in memory, and the packets on both ways of its cable.
use Rattle.std.specs.Prelude.{◌≡◌, ℕ, Bool, true, List, [], ◌∷◌, ◌++◌, Option}
use Rattle.device_stream.specs.Hands.{Hand}
use Rattle.handheld_files.specs.Openings.{Stands}
use Rattle.hs_folders.specs.FileMaps.{FileMap}
use Rattle.port_laws.specs.Palms.{MovesOn, Palm}
use Rattle.port_line.specs.Comings.{ComingValue}
use Rattle.slp_frames.specs.PacketText.{PacketValue}

-- the handheld and its folder, and whether it broke down
pub record HandheldValue (F : Type 0) : Type 0 where
  pub folder : F
  pub hand : Hand
  pub is_down : Bool

-- the handheld, what was said toward it and what comes from it
pub record CradleValue (F : Type 0) : Type 0 where
  pub handheld : HandheldValue F
  pub toward : List PacketValue
  pub coming : ComingValue

-- a port with a cradle behind it, and how often it failed
pub record PalmPortValue (F : Type 0) : Type 0 where
  pub cradle : CradleValue F
  pub faults : ℕ

-- what stands behind the port
abbrev pub palm_of : {F : Type 0} → CradleValue F → Palm
palm_of cradle = record {
  hand = cradle.handheld.hand;
  toward = cradle.toward;
  back = cradle.coming.packets;
  part = cradle.coming.part;
}

-- before a handheld is woken, nothing is under way
abbrev pub palm_before : Hand → Palm
palm_before hand = record { hand = hand; toward = []; back = []; part = [] }

-- a handheld that didn't break down keeps its device in its folder
pub record IsUp {F : Type 0} (contents : F → Option FileMap) (folder : F) (hand : Hand)
    (sound : Bool) : Type 0 where
  pub sound_is : sound ≡ true
  pub stands : Stands (contents folder) hand.device.databases hand.device.user

-- ---- what a handheld does, whatever else is under way

abbrev pub palm_with : Hand → List PacketValue → ComingValue → Palm
palm_with hand toward coming =
    record { hand = hand; toward = toward; back = coming.packets; part = coming.part }

-- these packets come behind the others
abbrev pub with_packets : ComingValue → List PacketValue → ComingValue
with_packets coming said = record { packets = coming.packets ++ said; part = coming.part }

-- the oldest packet came to it, and it said these
abbrev pub Hears : Hand → PacketValue → List PacketValue → Hand → Type 0
Hears old packet said new =
    (toward : List PacketValue) (coming : ComingValue)
    → MovesOn (palm_with old (packet ∷ toward) coming)
    (palm_with new toward (with_packets coming said))

-- its clock ticked, and it said these
abbrev pub Ticks : Hand → List PacketValue → Hand → Type 0
Ticks old said new =
    (toward : List PacketValue) (coming : ComingValue)
    → MovesOn (palm_with old toward coming) (palm_with new toward (with_packets coming said))
