-- Request texts: how each request stands on the wire (pilot-link, `dlp.c`: function, number of
-- arguments, arguments).
use Rattle.std.specs.Prelude.{◌≡◌, ◌≤◌, ℕ, List, [], ◌∷◌, length, Option, Some, None}
use Rattle.dlp_args.specs.Arguments.{ArgText, arg_text}
use Rattle.dlp_args.specs.Arguments as argument
use Rattle.dlp_args.specs.Cells.{CellKind, Text, Whole, Cell}
use Rattle.dlp_args.specs.Fields.{Fields, AreFields, fields_text, FieldsFit}
use Rattle.dlp_requests.specs.Forms.{number_of, argument_of, kinds_of}
use Rattle.dlp_requests.specs.RequestValues.{RequestValue}

-- the bytes are 0 where there is no argument, or 1 and one of the texts of the argument of this id
-- with this content
abbrev pub HasArgument : Option ℕ → List ℕ → List ℕ → Type 0
HasArgument None content bytes = (content ≡ []) × (bytes ≡ 0 ∷ [])
HasArgument (Some id) content bytes =
    (form : argument.HeaderForm) × (text : List ℕ)
    × ArgText form (record { id = id; bytes = content }) text × (bytes ≡ 1 ∷ text)

-- the bytes are a text of the request: the function, the number of arguments, and the argument with
-- its cells
pub record RequestText (value : RequestValue) (bytes : List ℕ) : Type 0 where
  pub content : List ℕ
  pub rest : List ℕ
  pub fields_text : AreFields (kinds_of value.form) value.fields content
  pub argument : HasArgument (argument_of value.form) content rest
  pub is : bytes ≡ number_of value.form ∷ rest

-- the number of arguments and the argument, as they are written
abbrev pub argument_text : Option ℕ → List ℕ → List ℕ
argument_text None content = 0 ∷ []
argument_text (Some id) content = 1 ∷ arg_text (record { id = id; bytes = content })

-- the text that is written of a request
unfoldable pub request_text : RequestValue → List ℕ
request_text value =
    number_of value.form
    ∷ argument_text (argument_of value.form) (fields_text (kinds_of value.form) value.fields)

-- a text, or bytes of no set length, are at most 65,500
abbrev pub IsShortCell : (k : CellKind) → Cell k → Type 0
IsShortCell Text text = length text ≤ 65500
IsShortCell Whole some = length some ≤ 65500
IsShortCell other x = Unit {0}

abbrev pub AreShort : (ks : List CellKind) → Fields ks → Type 0
AreShort [] fields = Unit {0}
AreShort (k ∷ ks) fields = IsShortCell k fields.0 × AreShort ks fields.1

-- the fields keep the bounds of the layout, and the text fits into a message
pub record KeepsBounds (value : RequestValue) : Type 0 where
  pub fields : FieldsFit (kinds_of value.form) value.fields
  pub fits : length (request_text value) ≤ 65535

-- such a request
unfoldable pub IsRequest : RequestValue → Type 0
IsRequest value = KeepsBounds value
