-- Head lines: `--- ID`, ` private` where the record is private, a space and the label of its
-- category.
use Rattle.std.specs.Prelude.{ℕ, ◌==◌, ◌&&◌, ◌||◌, Bool, not, List, [], ◌∷◌, ◌++◌, codes, encode_utf8, length, nat_eq, if◌then◌else◌}
use Rattle.std.specs.Int.{bytes_high_first}
use Rattle.std.specs.List.{flat_map, starts_with}
use Rattle.hex.specs.Hex.{encode_lower}
use Rattle.palm_records.specs.Characters.{char_of}

-- the byte that ends a line
abbrev pub line_feed : List ℕ
line_feed = 10 ∷ []

-- the bytes begin with a word
abbrev pub begins_with : List ℕ → List ℕ → Bool
begins_with word bytes = starts_with nat_eq bytes word

-- an id has 24 bits
abbrev pub id_limit : ℕ
id_limit = 0x1000000

-- three dashes and an id in six hexadecimal digits
abbrev pub id_text : ℕ → List ℕ
id_text id = codes "--- " ++ encode_lower (bytes_high_first 3 id)

-- the mark of a private record
abbrev pub mark : Bool → List ℕ
mark secret = if secret then codes " private" else []

-- the character of a byte of a label, which stays in its line: a line feed is shown by its picture
abbrev pub label_char : ℕ → ℕ
label_char byte = if byte == 10 then 0x240A else char_of byte

-- that character in UTF-8
abbrev pub label_char_text : ℕ → List ℕ
label_char_text byte = encode_utf8 (label_char byte)

-- the characters of a label
abbrev pub label_chars : List ℕ → List ℕ
label_chars label = flat_map label_char_text label

-- a label that could be taken for the mark, or for one that has a second space
abbrev pub is_doubtful : List ℕ → Bool
is_doubtful label = begins_with (codes " ") label || begins_with (codes "private") label

-- a space, and a second one in front of a doubtful label without the mark
abbrev pub gap : Bool → List ℕ → List ℕ
gap secret label = if not secret && is_doubtful label then codes "  " else codes " "

-- the label of the record's category, where there is one
abbrev pub label_text : Bool → List ℕ → List ℕ
label_text secret label = if length label == 0 then [] else gap secret label ++ label_chars label

-- the line of a record's head
abbrev pub head_line : ℕ → Bool → List ℕ → List ℕ
head_line id secret label = id_text id ++ (mark secret ++ (label_text secret label ++ line_feed))
