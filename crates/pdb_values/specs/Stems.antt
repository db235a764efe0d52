-- Stems: the names of databases as names of files, in letters, digits, `_`, `-` and the escape `%`.
use Rattle.std.specs.Prelude.{ℕ, ◌+◌, ◌/◌, ◌%◌, ◌==◌, ◌||◌, Bool, nat_lt, if◌then◌else◌, List, [], ◌∷◌}
use Rattle.std.specs.Char.{is_ascii_alphanumeric}
use Rattle.std.specs.List.{flat_map}

-- 0 to 9, then A to F
abbrev pub hex_digit : ℕ → ℕ
hex_digit number = if nat_lt number 10 then 48 + number else 55 + number

-- the bytes that stand for themselves: digits, letters, `_` and `-`
abbrev pub is_plain : ℕ → Bool
is_plain byte = is_ascii_alphanumeric byte || (byte == 95) || (byte == 45)

-- what stands for a byte: itself, or `%` and its two hexadecimal digits
unfoldable pub stem_byte : ℕ → List ℕ
stem_byte byte =
    if is_plain byte then byte ∷ [] else 37 ∷ hex_digit (byte / 16) ∷ hex_digit (byte % 16) ∷ []

-- the stem of a name, byte after byte
abbrev pub stem_of : List ℕ → List ℕ
stem_of name = flat_map stem_byte name
