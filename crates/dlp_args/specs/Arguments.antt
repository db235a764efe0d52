-- Arguments and their texts (pilot-link, `dlp.c`: tiny, short and long arguments).
use Rattle.std.specs.Prelude.{◌≡◌, ℕ, ◌+◌, ◌<◌, ◌≤◌, List, [], ◌∷◌, ◌++◌, length, nat_lt, if◌then◌else◌}
use Rattle.std.specs.List.{flat_map}
use Rattle.std.specs.Int.{w16, w32, to_be_bytes}

-- an argument is an id and bytes, wherever these lie
pub record Argument : Type 0 where
  pub id : ℕ
  pub bytes : List ℕ

-- the forms of an argument's header: a short or long one has a second byte, which may be any
pub data HeaderForm : Type 0 where
  Tiny : HeaderForm
  Short : (second : ℕ) → HeaderForm
  Long : (second : ℕ) → HeaderForm

-- the header of an id and a size: a short one has 0x80 in its first byte, a long one 0x40
abbrev pub header : HeaderForm → ℕ → ℕ → List ℕ
header Tiny id size = id ∷ size ∷ []
header (Short second) id size = (0x80 + id) ∷ second ∷ to_be_bytes w16 size
header (Long second) id size = (0x40 + id) ∷ second ∷ to_be_bytes w32 size

-- the greatest size that a form is taken at
abbrev pub greatest : HeaderForm → ℕ
greatest Tiny = 255
greatest (Short second) = 65535
greatest (Long second) = 65535

-- the text is the argument's header in this form, and then its bytes
pub record ArgText (form : HeaderForm) (argument : Argument) (text : List ℕ) : Type 0 where
  pub low : 0x20 ≤ argument.id
  pub high : argument.id < 0x40
  pub size : length argument.bytes ≤ greatest form
  pub is : text ≡ header form argument.id (length argument.bytes) ++ argument.bytes

-- the bytes are texts of these arguments, one after the other and up to the end
abbrev pub ArgTexts : List Argument → List ℕ → Type 0
ArgTexts [] bytes = bytes ≡ []
ArgTexts (argument ∷ arguments) bytes =
    (form : HeaderForm) × (text : List ℕ) × (rest : List ℕ) × ArgText form argument text
    × (bytes ≡ text ++ rest)
    × ArgTexts arguments rest

-- an argument of this size is written tiny below 255 bytes, and else short with the second byte 0
abbrev pub written_form : ℕ → HeaderForm
written_form size = if nat_lt size 255 then Tiny else Short 0

-- the text that is written of an argument
abbrev pub arg_text : Argument → List ℕ
arg_text argument =
    header (written_form (length argument.bytes)) argument.id (length argument.bytes)
    ++ argument.bytes

-- the texts that are written of arguments, one after the other
abbrev pub arg_texts : List Argument → List ℕ
arg_texts arguments = flat_map arg_text arguments

-- an argument that has a text
pub record IsArgument (argument : Argument) : Type 0 where
  pub low : 0x20 ≤ argument.id
  pub high : argument.id < 0x40
  pub size : length argument.bytes ≤ 65535
