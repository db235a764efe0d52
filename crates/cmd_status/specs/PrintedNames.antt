-- Names of files in printed lines: in ASCII from the space to `~`, one to one.
use Rattle.std.specs.Prelude.{ℕ, not, ◌+◌, ◌*◌, ◌/◌, ◌%◌, ◌==◌, ◌&&◌, ◌||◌, Bool, false, nat_le, nat_lt, if◌then◌else◌, List, [], ◌∷◌, ◌++◌}
use Rattle.pdb_values.specs.Stems.{hex_digit}
use Rattle.run_words.specs.StemNames.{digit_number}

-- from the space to `~`
abbrev pub is_printable : ℕ → Bool
is_printable byte = nat_le 32 byte && nat_le byte 126

-- a byte that may be written as an escape: one that isn't printable, or `%`
abbrev pub is_escaped : ℕ → Bool
is_escaped byte = not (is_printable byte) || (byte == 37)

-- these begin with the two digits of an escape
abbrev pub begins_escape : List ℕ → Bool
begins_escape (high ∷ low ∷ rest) =
    nat_lt (digit_number high) 16 && nat_lt (digit_number low) 16
    && is_escaped (digit_number high * 16 + digit_number low)
begins_escape _ = false

-- in front of these a byte stands for itself: it is printable, and no `%` that would begin an
-- escape
abbrev pub stands_alone : ℕ → List ℕ → Bool
stands_alone byte rest = is_printable byte && not ((byte == 37) && begins_escape rest)

-- `%` and the two hexadecimal digits of a byte
abbrev pub escape_of : ℕ → List ℕ
escape_of byte = 37 ∷ hex_digit (byte / 16) ∷ hex_digit (byte % 16) ∷ []

-- what stands for a byte in front of these
abbrev pub printed_byte : ℕ → List ℕ → List ℕ
printed_byte byte rest = if stands_alone byte rest then byte ∷ [] else escape_of byte

-- what stands for a name, byte after byte
unfoldable pub printed_name : List ℕ → List ℕ
printed_name [] = []
printed_name (byte ∷ rest) = printed_byte byte rest ++ printed_name rest
