-- Bytes of characters: the way back from the characters of a Palm's text (Palm OS 3.5, character
-- set of the Latin handhelds).
use Rattle.std.specs.Prelude.{ℕ, zero, suc, ◌==◌, List, [], ◌∷◌, chars, Option, None, Some, if◌then◌else◌}
use Rattle.std.specs.Str.{is_utf8}
use Rattle.palm_records.specs.Characters.{char_of}

-- the byte below this one that stands for a character
unfoldable pub byte_below : ℕ → ℕ → Option ℕ
byte_below zero c = None
byte_below (suc byte) c = if char_of byte == c then Some byte else byte_below byte c

-- the byte of a character, where it has one; the line feed's picture stands for it, too, and the
-- zero byte is in no text
unfoldable pub byte_of : ℕ → Option ℕ
byte_of c = if c == 0x2400 then None else if c == 0x240A then Some 10 else byte_below 256 c

-- a byte and those behind it, where all are there
abbrev pub with_first : Option ℕ → Option (List ℕ) → Option (List ℕ)
with_first None bytes = None
with_first (Some byte) None = None
with_first (Some byte) (Some bytes) = Some (byte ∷ bytes)

-- the bytes of characters, where each has one
unfoldable pub bytes_of : List ℕ → Option (List ℕ)
bytes_of [] = Some []
bytes_of (c ∷ cs) = with_first (byte_of c) (bytes_of cs)

-- the bytes of a line in UTF-8
abbrev pub line_bytes : List ℕ → Option (List ℕ)
line_bytes line = if is_utf8 line then bytes_of (chars line) else None
