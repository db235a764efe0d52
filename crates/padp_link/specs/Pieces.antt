-- The pieces of a message, their keys, and the fragments that they are sent in.
use Rattle.std.specs.Prelude.{ℕ, ◌+◌, ◌-◌, ◌*◌, min, max, List, length, take, drop, map, nat_eq, if◌then◌else◌}
use Rattle.std.specs.List.{range_with_len}
use Rattle.std.specs.Int.{div_ceil}
use Rattle.padp_link.specs.declared.fragment.PadpKind.TheVariants.{Data}
use Rattle.padp_link.specs.Numbers.{max_data, first_flag, last_flag}
use Rattle.padp_link.specs.declared.piece.Key.{Key}
use Rattle.padp_link.specs.declared.piece.Piece.{Piece}
use Rattle.padp_link.specs.FragmentText.{FragmentValue}

-- how many pieces a message of this length has: a message of no bytes has one
abbrev pub piece_count : ℕ → ℕ
piece_count length = max (div_ceil length max_data) 1

-- the flags of the piece of this number, from 0 on
abbrev pub piece_flags : ℕ → ℕ → ℕ
piece_flags length number =
    (if nat_eq number 0 then first_flag else 0)
    + (if nat_eq (number + 1) (piece_count length) then last_flag else 0)

-- the size that it bears: the first one that of the message, each later one its place
abbrev pub piece_size : ℕ → ℕ → ℕ
piece_size length number = if nat_eq number 0 then length else max_data * number

-- the piece of this number of a message under this id
abbrev pub piece_of : ℕ → ℕ → ℕ → Piece
piece_of id length number = record {
  key = record { id = id; flags = piece_flags length number; size = piece_size length number };
  place = max_data * number;
  length = min (length - max_data * number) max_data;
}

-- the pieces of a message of this length under this id
abbrev pub pieces : ℕ → ℕ → List Piece
pieces id length = map (piece_of id length) (range_with_len 0 (piece_count length))

-- the fragment in which a piece of this message is sent
abbrev pub fragment_of : List ℕ → Piece → FragmentValue
fragment_of message piece =
    record {
      kind = Data;
      flags = piece.key.flags;
      size = piece.key.size;
      bytes = take piece.length (drop piece.place message);
    }

-- the fragments of a message under this id
abbrev pub fragments : ℕ → List ℕ → List FragmentValue
fragments id message = map (fragment_of message) (pieces id (length message))

-- the key that a fragment has under this id
abbrev pub key_of : ℕ → FragmentValue → Key
key_of id fragment = record { id = id; flags = fragment.flags; size = fragment.size }
