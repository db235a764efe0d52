-- The text of a packet of the serial link protocol, as pilot-link's pi-slp.h and slp.c have it.
use Rattle.std.specs.Prelude.{ℕ, ◌+◌, ◌%◌, ◌≤◌, List, [], ◌∷◌, ◌++◌, length, sum}
use Rattle.byteorder.specs.Endian.{big_bytes}
use Rattle.slp_frames.specs.Crc.{crc_of}
use Rattle.slp_frames.specs.Numbers.{sync_bytes, header_len, crc_len, max_body}

-- what the header of a packet says: two sockets, the type of the body and its size, the transaction
pub record HeaderValue : Type 0 where
  pub dest : ℕ
  pub source : ℕ
  pub kind : ℕ
  pub size : ℕ
  pub id : ℕ

-- a packet, wherever its body lies
pub record PacketValue : Type 0 where
  pub dest : ℕ
  pub source : ℕ
  pub kind : ℕ
  pub id : ℕ
  pub body : List ℕ

-- the header that a packet has
abbrev pub header_of : PacketValue → HeaderValue
header_of packet = record {
  dest = packet.dest;
  source = packet.source;
  kind = packet.kind;
  size = length packet.body;
  id = packet.id;
}

-- bytes, and the sum of them modulo 256
abbrev pub with_sum : List ℕ → List ℕ
with_sum bytes = bytes ++ sum bytes % 256 ∷ []

-- bytes, and the CRC of them, the higher byte first
abbrev pub with_crc : List ℕ → List ℕ
with_crc bytes = bytes ++ big_bytes crc_len (crc_of bytes)

-- the ten bytes of a header: BE EF ED, the fields in their order, and the sum of these nine bytes
unfoldable pub header_text : HeaderValue → List ℕ
header_text header =
    with_sum (sync_bytes
    ++ header.dest ∷ header.source ∷ header.kind ∷ (big_bytes 2 header.size ++ header.id ∷ []))

-- the bytes of a packet: its header, its body, and the CRC of both
unfoldable pub packet_text : PacketValue → List ℕ
packet_text packet = with_crc (header_text (header_of packet) ++ packet.body)

-- how many bytes the text of a packet has whose body has this size
abbrev pub text_len : ℕ → ℕ
text_len size = header_len + size + crc_len

-- a packet has a text where its body isn't too long
abbrev pub HasText : PacketValue → Type 0
HasText packet = length packet.body ≤ max_body
