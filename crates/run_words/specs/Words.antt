-- Words, one by one.
use Rattle.std.specs.Prelude.{ℕ, suc, Bool, false, not, ◌==◌, ◌&&◌, ◌||◌, nat_eq, nat_le, List, [], ◌∷◌, Option, Some, None, codes, drop, filter, length, option_map, slice_index}
use Rattle.std.specs.Prelude.{if◌then◌else◌}
use Rattle.std.specs.List.{starts_with}
use Rattle.std.specs.Option.{option_map_or}
use Rattle.std.specs.Result.{result_unwrap_or}
use Rattle.hex.specs.Hex.{decode_of}

-- what follows a first part of a word, where the word begins with that
abbrev pub after : List ℕ → List ℕ → Option (List ℕ)
after [] word = Some word
after (x ∷ xs) [] = None
after (x ∷ xs) (y ∷ ys) = if x == y then after xs ys else None

-- a plain word is not empty and does not begin with `-`
abbrev pub is_plain : List ℕ → Bool
is_plain word = not (length word == 0) && not (slice_index word 0 == 45)

-- a digit of hexadecimal: `0` to `9`, `A` to `F` or `a` to `f`
abbrev pub is_digit : ℕ → Bool
is_digit byte =
    (nat_le 48 byte && nat_le byte 57) || (nat_le 65 byte && nat_le byte 70)
    || (nat_le 97 byte && nat_le byte 102)

-- how many bytes hexadecimal stands for: two digits for each, and spaces between bytes
unfoldable pub byte_count : List ℕ → Option ℕ
byte_count [] = Some 0
byte_count (first ∷ []) = if first == 32 then Some 0 else None
byte_count (first ∷ second ∷ rest) =
    if first == 32 then byte_count (second ∷ rest)
    else (if is_digit first && is_digit second then option_map suc (byte_count rest) else None)

-- a word without `0x` in front
abbrev pub without_prefix : List ℕ → List ℕ
without_prefix word = if starts_with nat_eq word (codes "0x") then drop 2 word else word

-- 1 to 4,096 bytes
abbrev pub is_byte_count : ℕ → Bool
is_byte_count count = nat_le 1 count && nat_le count 4096

-- the hexadecimal of 1 to 4,096 bytes
abbrev pub is_hex : List ℕ → Bool
is_hex word = option_map_or is_byte_count (byte_count (without_prefix word)) false

-- the digits of hexadecimal
abbrev pub digits_of : List ℕ → List ℕ
digits_of word = filter (λ byte. not (byte == 32)) (without_prefix word)

-- the bytes that hexadecimal stands for
abbrev pub bytes_of : List ℕ → List ℕ
bytes_of word = result_unwrap_or (decode_of (digits_of word)) []
