-- Properties of vCard and iCalendar (RFC 2426 section 5, RFC 5545 section 3.1), in characters.
use Rattle.std.specs.Prelude.{ℕ, ◌+◌, ◌%◌, ◌<◌, ◌==◌, ◌&&◌, not, nat_lt, Bool, true, List, [], ◌∷◌, ◌++◌, codes, map, slice_index}
use Rattle.palm_records.specs.Characters.{characters}
use Rattle.content_lines.specs.Lines.{escaped, has_no_break, lines_text}

-- a property: its name with its parameters, and its value, as they stand in front of and behind
-- the colon
pub record PropertyValue : Type 0 where
  pub name : List ℕ
  pub value : List ℕ

-- each is a byte
abbrev pub IsBytes : List ℕ → Type 0
IsBytes bytes = (i : ℕ) → slice_index bytes i < 256

-- each character is one of ASCII, and none is a control
abbrev pub is_plain : List ℕ → Bool
is_plain [] = true
is_plain (c ∷ cs) = (nat_lt 31 c && nat_lt c 127) && is_plain cs

-- nor is any a space or a colon
abbrev pub is_name : List ℕ → Bool
is_name [] = true
is_name (c ∷ cs) = (nat_lt 32 c && (nat_lt c 127 && not (c == 58))) && is_name cs

-- it is told by its line
abbrev pub is_property : PropertyValue → Bool
is_property property = is_name property.name && has_no_break property.value

-- so is each
abbrev pub are_properties : List PropertyValue → Bool
are_properties [] = true
are_properties (property ∷ others) = is_property property && are_properties others

-- ---- values

-- the last decimal digit of a number
abbrev pub digit : ℕ → ℕ
digit number = 48 + number % 10

-- a value that is written as it is
abbrev pub plain_property : List ℕ → List ℕ → PropertyValue
plain_property name value = record { name = name; value = value }

-- the characters of a text of a Palm, with their escapes
abbrev pub text_value : List ℕ → List ℕ
text_value text = escaped (characters text)

-- a property with such a text
abbrev pub text_property : List ℕ → List ℕ → PropertyValue
text_property name text = record { name = name; value = text_value text }

-- that property, where there is a text
abbrev pub given_property : List ℕ → List ℕ → List PropertyValue
given_property name [] = []
given_property name (byte ∷ rest) = text_property name (byte ∷ rest) ∷ []

-- texts, with semicolons between them
abbrev pub parts_value : List (List ℕ) → List ℕ
parts_value [] = []
parts_value (text ∷ []) = text_value text
parts_value (text ∷ next ∷ rest) = text_value text ++ (codes ";" ++ parts_value (next ∷ rest))

-- ---- lines

-- the line of a property
abbrev pub property_line : PropertyValue → List ℕ
property_line property = property.name ++ 58 ∷ property.value

-- a property behind the other, each on a line, in UTF-8
abbrev pub properties_text : List PropertyValue → List ℕ
properties_text properties = lines_text (map property_line properties)
