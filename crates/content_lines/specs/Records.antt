-- What properties say of a record of a Palm.
use Rattle.std.specs.Prelude.{ℕ, Bool, List, [], ◌∷◌, ◌++◌, codes, if◌then◌else◌}
use Rattle.std.specs.Int.{bytes_high_first}
use Rattle.hex.specs.Hex.{encode_lower}
use Rattle.content_lines.specs.Properties.{PropertyValue, given_property, plain_property}

-- an id has 24 bits
abbrev pub id_limit : ℕ
id_limit = 0x1000000

-- the id in six hexadecimal digits
abbrev pub id_digits : ℕ → List ℕ
id_digits id = encode_lower (bytes_high_first 3 id)

-- the name that no other record has: its id, and the stem of its database
abbrev pub uid : ℕ → List ℕ → PropertyValue
uid id stem = plain_property (codes "UID") (id_digits id ++ (codes "." ++ (stem ++ codes "@palm")))

-- what is said of a record that is out of its form
abbrev pub unread_name : List ℕ → ℕ → PropertyValue
unread_name name id =
    plain_property name (codes "(unreadable record " ++ (id_digits id ++ codes ")"))

-- the bytes of such a record
abbrev pub unread_bytes : List ℕ → PropertyValue
unread_bytes bytes = plain_property (codes "X-PALM-RECORD") (encode_lower bytes)

-- the mark of a private record
abbrev pub class_properties : Bool → List PropertyValue
class_properties secret =
    if secret then plain_property (codes "CLASS") (codes "PRIVATE") ∷ [] else []

-- the label of a record's category (empty: none), and the mark
abbrev pub mark_properties : List ℕ → Bool → List PropertyValue
mark_properties label secret = given_property (codes "CATEGORIES") label ++ class_properties secret
