-- The packets of a stream of bytes as a function, for equations: the law `scan_is_by_places` says
-- that they are those of `IsScan`.
use Rattle.std.specs.Prelude.{ℕ, zero, suc, ◌-◌, Bool, ◌&&◌, List, [], ◌∷◌, length, take, drop, slice_index, nat_lt, nat_le, nat_eq, if◌then◌else◌}
use Rattle.std.specs.List.{starts_with}
use Rattle.byteorder.specs.Endian.{big_number}
use Rattle.slp_frames.specs.PacketText.{HeaderValue, header_text, PacketValue, packet_text, text_len}
use Rattle.slp_frames.specs.Numbers.{sync_bytes, header_len, max_body, dest_place, source_place, kind_place, size_place, id_place}

-- what the header at the front says, if one stands there
unfoldable pub fields_at : List ℕ → HeaderValue
fields_at bytes = record {
  dest = slice_index bytes dest_place;
  source = slice_index bytes source_place;
  kind = slice_index bytes kind_place;
  size = big_number 2 (drop size_place bytes);
  id = slice_index bytes id_place;
}

-- the packet with this header whose text the bytes begin with, if one stands there
abbrev pub packet_behind : HeaderValue → List ℕ → PacketValue
packet_behind header bytes =
    record {
      dest = header.dest;
      source = header.source;
      kind = header.kind;
      id = header.id;
      body = take header.size (drop header_len bytes);
    }

abbrev pub packet_at : List ℕ → PacketValue
packet_at bytes = packet_behind (fields_at bytes) bytes

-- a packet's text stands at the front: the one that these fields and this body make
unfoldable pub has_packet : List ℕ → Bool
has_packet bytes =
    nat_le (fields_at bytes).size max_body
    && starts_with nat_eq bytes (packet_text (packet_at bytes))

-- a packet's header stands at the front: the one that these fields make
unfoldable pub has_header : List ℕ → Bool
has_header bytes =
    nat_le (fields_at bytes).size max_body
    && starts_with nat_eq bytes (header_text (fields_at bytes))

-- the bytes may become a packet's text by further ones, as far as its header tells
unfoldable pub is_open : List ℕ → Bool
is_open bytes =
    if nat_lt (length bytes) header_len then starts_with nat_eq sync_bytes (take 3 bytes)
    else has_header bytes && nat_lt (length bytes) (text_len (fields_at bytes).size)

-- what stands at the front
pub data Place : Type 0 where
  Whole : PacketValue → Place
  Open : Place
  Dead : Place

unfoldable pub place_of : List ℕ → Place
place_of bytes =
    if has_packet bytes then Whole (packet_at bytes) else (if is_open bytes then Open else Dead)

-- what stands at a place, and the packets behind it: `behind count` are those that begin behind so
-- many bytes more
abbrev pub with_later : Place → (ℕ → List PacketValue) → List PacketValue
with_later (Whole packet) behind = packet ∷ behind (text_len (length packet.body) - 1)
with_later Open behind = []
with_later Dead behind = behind 0

-- the packets that begin behind so many bytes
abbrev pub scan_behind : ℕ → List ℕ → List PacketValue
scan_behind count [] = []
scan_behind (suc count) (byte ∷ bytes) = scan_behind count bytes
scan_behind zero (byte ∷ bytes) =
    with_later (place_of (byte ∷ bytes)) (λ count. scan_behind count bytes)

-- the packets that these bytes hold, in order
abbrev pub scan : List ℕ → List PacketValue
scan bytes = scan_behind 0 bytes
