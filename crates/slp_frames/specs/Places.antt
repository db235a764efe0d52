-- Which packets a stream of bytes holds, by places. Sockets, header and CRC are those of
-- pilot-link; that a body has at most
-- 1,028 bytes and that the next place is tried after a bad header or CRC is this protocol reader's
-- own rule.
use Rattle.std.specs.Prelude.{◌≡◌, ℕ, ◌+◌, ◌<◌, ◌≤◌, List, [], ◌∷◌, ◌++◌, length, take, drop, ◌⊎◌}
use Rattle.slp_frames.specs.PacketText.{HeaderValue, header_text, PacketValue, packet_text, HasText, text_len}
use Rattle.slp_frames.specs.Numbers.{sync_bytes, header_len, max_body}

-- the text of the packet begins these bytes
pub record Begins (packet : PacketValue) (bytes : List ℕ) : Type 0 where
  pub has_text : HasText packet
  pub rest : List ℕ
  pub is : bytes ≡ packet_text packet ++ rest

-- fewer bytes than a header has, which agree with BE EF ED as far as they reach
pub record IsHeaderFront (bytes : List ℕ) : Type 0 where
  pub few : length bytes < header_len
  pub rest : List ℕ
  pub agrees : sync_bytes ≡ take 3 bytes ++ rest

-- the header of a packet that is longer than these bytes begins them
pub record IsPacketFront (bytes : List ℕ) : Type 0 where
  pub header : HeaderValue
  pub fits : header.size ≤ max_body
  pub rest : List ℕ
  pub is : bytes ≡ header_text header ++ rest
  pub unfinished : length bytes < text_len header.size

-- Bytes are open where further ones may make a packet's text of them, as far as its header tells.
abbrev pub IsOpen : List ℕ → Type 0
IsOpen bytes = IsHeaderFront bytes ⊎ IsPacketFront bytes

-- Bytes are dead where they begin with no packet's text and aren't open: no further bytes change
-- that.
pub record IsDead (bytes : List ℕ) : Type 0 where
  pub no_packet : (packet : PacketValue) → ¬ Begins packet bytes
  pub not_open : ¬ IsOpen bytes

-- a packet, and the place where its text begins
pub record PlacedPacket : Type 0 where
  pub place : ℕ
  pub packet : PacketValue

-- the next packet at or after the place `from`: every place before it is dead
pub record IsNext (bytes : List ℕ) (from : ℕ) (found : PlacedPacket) : Type 0 where
  pub after : from ≤ found.place
  pub text : Begins found.packet (drop found.place bytes)
  pub dead : (place : ℕ) → from ≤ place → place < found.place → IsDead (drop place bytes)

-- all packets from the place `from` on: each is the next after the end of the one before it, and
-- after the last there is none
abbrev pub IsScanFrom : List ℕ → ℕ → List PlacedPacket → Type 0
IsScanFrom bytes from [] = (found : PlacedPacket) → ¬ IsNext bytes from found
IsScanFrom bytes from (found ∷ later) =
    IsNext bytes from found
    × IsScanFrom bytes (found.place + text_len (length found.packet.body)) later

-- the packets that these bytes hold, with their places
abbrev pub IsScan : List ℕ → List PlacedPacket → Type 0
IsScan bytes found = IsScanFrom bytes 0 found
