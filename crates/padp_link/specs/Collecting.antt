-- How a receiver holds the pieces that it took: the bytes of their message so far, its length and
-- how many they are.
use Rattle.std.specs.Prelude.{◌≡◌, ℕ, ◌*◌, ◌≤◌, min, List, length, map, Vec, vec_capacity}
use Rattle.std.specs.List.{range_with_len}
use Rattle.std.specs.declared.alloc.Global.{Global}
use Rattle.padp_link.specs.Numbers.{max_data}
use Rattle.padp_link.specs.declared.fragment.PadpKind.TheVariants.{Data}
use Rattle.padp_link.specs.declared.piece.Key.{Key}
use Rattle.padp_link.specs.FragmentText.{FragmentValue}
use Rattle.padp_link.specs.Pieces.{piece_count, piece_of, fragment_of}

-- the first pieces of a message of this length that begins with these bytes, so many of them
abbrev pub taken_pieces : ℕ → ℕ → List ℕ → List FragmentValue
taken_pieces length count bytes =
    map (λ number. fragment_of bytes (piece_of 0 length number)) (range_with_len 0 count)

-- the bytes are those of the first pieces, and there is room for the longest message
pub record HoldsPieces (size count : ℕ) (message : Vec ℕ Global) : Type 0 where
  pub count_fits : count ≤ piece_count size
  pub has_all : length message.items ≡ min (max_data * count) size
  pub room : 65535 ≤ vec_capacity message

-- the data fragment of this key with this part of a message
abbrev pub data_fragment : Key → List ℕ → FragmentValue
data_fragment key bytes = record { kind = Data; flags = key.flags; size = key.size; bytes = bytes }
