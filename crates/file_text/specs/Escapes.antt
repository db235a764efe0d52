-- The bytes of an entry as text: one to one, and in ASCII from the space to `~`.
use Rattle.std.specs.Prelude.{ℕ, ◌+◌, ◌/◌, ◌%◌, ◌==◌, ◌&&◌, Bool, nat_le, nat_lt, if◌then◌else◌, List, [], ◌∷◌, ◌++◌, codes}

-- from the space to `~`
abbrev pub is_printable : ℕ → Bool
is_printable byte = nat_le 32 byte && nat_le byte 126

-- 0 to 9, then a to f
abbrev pub lower_digit : ℕ → ℕ
lower_digit number = if nat_lt number 10 then 48 + number else 87 + number

-- `\x` and the two hexadecimal digits of a byte
abbrev pub hex_escape : ℕ → List ℕ
hex_escape byte = 92 ∷ 120 ∷ lower_digit (byte / 16) ∷ lower_digit (byte % 16) ∷ []

-- a byte without a letter of its own: itself where it is printable
abbrev pub other_byte : ℕ → List ℕ
other_byte byte = if is_printable byte then byte ∷ [] else hex_escape byte

-- what stands for a byte: `\\` for a backslash, `\n`, `\r`, `\t` and `\0` for a line feed, a
-- carriage return, a tabulator and a zero, and any other byte for itself or as `\xHH`
abbrev pub escaped_byte : ℕ → List ℕ
escaped_byte byte =
    if byte == 92 then codes "\\\\"
    else (if byte == 10 then codes "\\n"
    else (if byte == 13 then codes "\\r"
    else (if byte == 9 then codes "\\t"
    else (if byte == 0 then codes "\\0" else other_byte byte))))

-- what stands for bytes, one after the other
unfoldable pub escaped : List ℕ → List ℕ
escaped [] = []
escaped (byte ∷ bytes) = escaped_byte byte ++ escaped bytes
