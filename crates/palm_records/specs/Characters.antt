-- The characters of a Palm's text (Palm OS 3.5, character set of the Latin handhelds).
use Rattle.std.specs.Prelude.{ℕ, ◌+◌, ◌-◌, ◌==◌, ◌||◌, List, [], ◌∷◌, encode_utf8, map, nat_le, nat_lt, slice_index, if◌then◌else◌}

-- the characters of 0x80 to 0x9F: those of Windows-1252, but for the suits of cards at 0x8D to 0x90;
-- the four bytes that have none there are shown by characters of private use, since what stands at
-- their own number steers a terminal
abbrev pub specials : List ℕ
specials =
    0x20AC ∷ 0xF081 ∷ 0x201A ∷ 0x192 ∷ 0x201E ∷ 0x2026 ∷ 0x2020 ∷ 0x2021 ∷ 0x2C6 ∷ 0x2030 ∷ 0x160
    ∷ 0x2039 ∷ 0x152 ∷ 0x2666 ∷ 0x2663 ∷ 0x2665
    ∷ 0x2660 ∷ 0x2018 ∷ 0x2019 ∷ 0x201C ∷ 0x201D ∷ 0x2022 ∷ 0x2013 ∷ 0x2014 ∷ 0x2DC ∷ 0x2122
    ∷ 0x161 ∷ 0xF09B ∷ 0x153 ∷ 0xF09D ∷ 0xF09E ∷ 0x178 ∷ []

-- tab and line feed stay, and the other controls are shown by their pictures
abbrev pub control_char : ℕ → ℕ
control_char byte = if byte == 9 || byte == 10 then byte else 0x2400 + byte

-- the character that a byte stands for
unfoldable pub char_of : ℕ → ℕ
char_of byte =
    if nat_lt byte 0x20 then control_char byte
    else if byte == 0x7F then 0x2421
    else if nat_lt byte 0x80 || nat_le 0xA0 byte then byte
    else slice_index specials (byte - 0x80)

-- those that bytes stand for
abbrev pub characters : List ℕ → List ℕ
characters bytes = map char_of bytes

-- the character of a byte in UTF-8
abbrev pub char_text : ℕ → List ℕ
char_text byte = encode_utf8 (char_of byte)
