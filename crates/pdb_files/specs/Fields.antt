-- Numbers and codes in a file, the highest byte first (Palm File Format Specification).
use Rattle.std.specs.Prelude.{ℕ, List, take, drop}
use Rattle.byteorder.specs.Endian.{big_number}

-- the number in so many bytes from a place on
unfoldable pub number_at : ℕ → ℕ → List ℕ → ℕ
number_at size place bytes = big_number size (drop place bytes)

-- the four bytes of a type or a creator from a place on
unfoldable pub code_at : ℕ → List ℕ → List ℕ
code_at place bytes = take 4 (drop place bytes)
