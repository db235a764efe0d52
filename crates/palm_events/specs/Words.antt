-- Numbers of two bytes.
use Rattle.std.specs.Prelude.{ℕ, ◌+◌, ◌*◌, List, slice_index}

-- the number of the two bytes at a place, the high one first
abbrev pub word_at : List ℕ → ℕ → ℕ
word_at bytes place = slice_index bytes place * 256 + slice_index bytes (place + 1)
