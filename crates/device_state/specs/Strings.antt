-- A string of bytes as it stands in memory.
use Rattle.std.specs.Prelude.{ℕ, List, ◌++◌, length}
use Rattle.byteorder.specs.Endian.{big_bytes}

-- Its length, a number of eight bytes with the highest first, and then its bytes.
unfoldable pub string_text : List ℕ → List ℕ
string_text string = big_bytes 8 (length string) ++ string
