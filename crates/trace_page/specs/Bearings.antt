-- What a frame bears: the key and the kind of the fragment in its packet, and the front of the part
-- of a message in it.
use Rattle.std.specs.Prelude.{ℕ, ◌==◌, Bool, List, length, drop, slice_index}
use Rattle.byteorder.specs.Endian.{big_number}
use Rattle.slp_frames.specs.PacketScan.{packet_at}
use Rattle.padp_link.specs.FragmentText.{has_flag, FragmentValue}
use Rattle.padp_link.specs.Numbers.{first_flag, last_flag}
use Rattle.padp_link.specs.Pieces.{key_of}
use Rattle.trace_text.specs.Frames.{fields_of}
use Rattle.trace_page.specs.declared.bearing.Bearing.{Bearing}

-- what a fragment in a packet of this transaction bears: a reply says its error in its third and
-- fourth byte
abbrev pub bearing_of : ℕ → FragmentValue → Bearing
bearing_of id fragment = record {
  key = key_of id fragment;
  kind = fragment.kind;
  length = length fragment.bytes;
  front = slice_index fragment.bytes 0;
  error = big_number 2 (drop 2 fragment.bytes);
}

-- what these bytes of a frame bear
unfoldable pub borne : List ℕ → Bearing
borne bytes = bearing_of (packet_at bytes).id (fields_of (packet_at bytes).body)

-- it bears the first part of a message, the last one
abbrev pub begins_message : Bearing → Bool
begins_message bearing = has_flag first_flag bearing.key.flags

abbrev pub ends_message : Bearing → Bool
ends_message bearing = has_flag last_flag bearing.key.flags

-- it belongs to a greeting, whose transaction is 0xFF
abbrev pub is_greeting : Bearing → Bool
is_greeting bearing = bearing.key.id == 0xFF
