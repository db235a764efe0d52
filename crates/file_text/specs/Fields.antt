-- Words of a line, each with the value behind it.
use Rattle.std.specs.Prelude.{ℕ, List, [], ◌∷◌, ◌++◌}
use Rattle.std.specs.Fmt.{decimal}
use Rattle.std.specs.Int.{bytes_high_first}
use Rattle.hex.specs.Hex.{encode_lower}

-- the byte that ends a line
abbrev pub line_feed : List ℕ
line_feed = 10 ∷ []

-- a word and a number in decimal
abbrev pub number_text : List ℕ → ℕ → List ℕ
number_text word number = word ++ decimal number

-- a word and bytes in lower-case hexadecimal, two digits a byte
abbrev pub hex_text : List ℕ → List ℕ → List ℕ
hex_text word bytes = word ++ encode_lower bytes

-- a number in so many bytes, the highest first
abbrev pub bytes_of : ℕ → ℕ → List ℕ
bytes_of size number = bytes_high_first size number
