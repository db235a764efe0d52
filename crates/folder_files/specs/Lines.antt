-- The lines of an information file: a key, what stands behind it, and a line feed.
use Rattle.std.specs.Prelude.{◌≡◌, ◌<◌, ◌≤◌, ◌^◌, ℕ, List, [], ◌∷◌, ◌++◌, Some, codes}
use Rattle.std.specs.Fmt.{decimal}
use Rattle.std.specs.Int.{w32, to_be_bytes}
use Rattle.hex.specs.Hex.{IsBytes, encode_lower}
use Rattle.pdb_values.specs.PalmDates.{wire_date}
use Rattle.pdb_values.specs.Names.{IsName}
use Rattle.pdb_values.specs.Stems.{stem_of}
use Rattle.pdb_values.specs.Users.{password_of, user_name_of}
use Rattle.folder_files.specs.Hexadecimal.{IsWireDate, bytes_text}

-- What stands behind a key: nothing; a number of 32 bits; one above 0; a date; the name of a user;
-- a password; how many slots a desktop has; what it knows of the user of one; the name of a database
-- as its stem.
pub data ValueKind : Type 0 where
  Title : ValueKind
  Number : ValueKind
  Positive : ValueKind
  Date : ValueKind
  Name : ValueKind
  Password : ValueKind
  Count : ValueKind
  Slot : ValueKind
  Stem : ValueKind

-- the form of a line
pub record LineForm : Type 0 where
  pub key : List ℕ
  pub kind : ValueKind

-- what is said there; a date in seconds
abbrev pub Value : ValueKind → Type 0
Value Title = Unit {0}
Value Number = ℕ
Value Positive = ℕ
Value Date = ℕ
Value Name = List ℕ
Value Password = List ℕ
Value Count = ℕ
Value Slot = ℕ × ℕ × List ℕ
Value Stem = List ℕ

-- the text says this number, this date, this name of a user, this name of a database
abbrev pub SaysNumber : ℕ → List ℕ → Type 0
SaysNumber number text = (text ≡ encode_lower (to_be_bytes w32 number)) × (number < 2 ^ 32)

abbrev pub SaysDate : ℕ → List ℕ → Type 0
SaysDate seconds text = (bytes : List ℕ) × (text ≡ encode_lower bytes) × IsWireDate seconds bytes

abbrev pub SaysName : List ℕ → List ℕ → Type 0
SaysName name text = (text ≡ bytes_text name) × IsBytes name × (user_name_of name ≡ Some name)

abbrev pub SaysStem : List ℕ → List ℕ → Type 0
SaysStem name text = (text ≡ stem_of name) × IsBytes name × IsName name

-- what a desktop knows of the user of a slot, by the texts of a number, a date and a name
abbrev pub slot_text : List ℕ → List ℕ → List ℕ → List ℕ
slot_text user last name =
    codes "user " ++ (user ++ (codes " last " ++ (last ++ (codes " name " ++ name))))

-- the text says this
abbrev pub Says : (kind : ValueKind) → Value kind → List ℕ → Type 0
Says Title value text = text ≡ []
Says Number number text = SaysNumber number text
Says Positive number text =
    (text ≡ encode_lower (to_be_bytes w32 number)) × (number < 2 ^ 32) × (0 < number)
Says Date seconds text = SaysDate seconds text
Says Name name text = SaysName name text
Says Password password text =
    (text ≡ bytes_text password) × IsBytes password × (password_of password ≡ Some password)
Says Count number text = (text ≡ decimal number) × (1 ≤ number) × (number ≤ 16)
Says Slot value text =
    (user last name : List ℕ) × (text ≡ slot_text user last name) × SaysNumber value.0 user
    × SaysDate value.1 last × SaysName value.2 name
Says Stem name text = SaysStem name text

-- the text that is written; of the two texts of a date of 0 seconds it is that of zeros
abbrev pub text_of : (kind : ValueKind) → Value kind → List ℕ
text_of Title value = []
text_of Number number = encode_lower (to_be_bytes w32 number)
text_of Positive number = encode_lower (to_be_bytes w32 number)
text_of Date seconds = encode_lower (wire_date seconds)
text_of Name name = bytes_text name
text_of Password password = bytes_text password
text_of Count number = decimal number
text_of Slot value =
    slot_text (encode_lower (to_be_bytes w32 value.0)) (encode_lower (wire_date value.1))
    (bytes_text value.2)
text_of Stem name = stem_of name

-- what lines of these forms say
abbrev pub Values : List LineForm → Type 0
Values [] = Unit {0}
Values (form ∷ forms) = Value form.kind × Values forms

-- the bytes are lines of these forms that say this
abbrev pub AreLines : (forms : List LineForm) → Values forms → List ℕ → Type 0
AreLines [] values bytes = bytes ≡ []
AreLines (form ∷ forms) values bytes =
    (text rest : List ℕ) × (bytes ≡ form.key ++ (text ++ 10 ∷ rest)) × Says form.kind values.0 text
    × AreLines forms values.1 rest

-- the lines that are written
abbrev pub lines_text : (forms : List LineForm) → Values forms → List ℕ
lines_text [] values = []
lines_text (form ∷ forms) values =
    form.key ++ (text_of form.kind values.0 ++ 10 ∷ lines_text forms values.1)
