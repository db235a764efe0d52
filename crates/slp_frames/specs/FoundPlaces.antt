-- What the program finds at a place.
use Rattle.std.specs.Prelude.{◌≡◌, ℕ, ◌≤◌, List, length, Option, Some, None}
use Rattle.slp_frames.specs.PacketText.{text_len}
use Rattle.slp_frames.specs.PacketScan.{fields_at, packet_at, has_header, place_of}
use Rattle.slp_frames.specs.PacketScan as scan
use Rattle.slp_frames.specs.declared.place.Place.{Place}
use Rattle.slp_frames.specs.declared.place.Place.TheVariants.{Whole, Open, Dead}

-- what stands at the front, with the size of a packet's body
abbrev pub IsPlace : List ℕ → Place → Type 0
IsPlace bytes (Whole size) =
    (place_of bytes ≡ scan.Whole (packet_at bytes)) × (size ≡ (fields_at bytes).size)
    × (text_len size ≤ length bytes)
IsPlace bytes Open = place_of bytes ≡ scan.Open
IsPlace bytes Dead = place_of bytes ≡ scan.Dead

-- at a place that isn't dead: the size of the body of the packet that stands there, if one does
abbrev pub FindsAt : List ℕ → Option ℕ → Type 0
FindsAt bytes None = IsPlace bytes Open
FindsAt bytes (Some size) = IsPlace bytes (Whole size)
