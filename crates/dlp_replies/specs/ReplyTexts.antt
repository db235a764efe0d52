-- Reply texts: how each reply stands on the wire (pilot-link, `dlp.c`).
use Rattle.std.specs.Prelude.{◌≡◌, ◌<◌, ◌^◌, ◌⊎◌, ℕ, List, [], ◌∷◌, None, Bool, true, false}
use Rattle.std.specs.Int.{w16, to_be_bytes}
use Rattle.dlp_args.specs.Arguments.{HeaderForm, ArgText}
use Rattle.dlp_args.specs.Functions.{function_of}
use Rattle.dlp_args.specs.Cells.{CellKind}
use Rattle.dlp_args.specs.Fields.{Fields, AreFields}
use Rattle.dlp_replies.specs.Checks.{Checks, first_bad}
use Rattle.dlp_replies.specs.ReplyReading.{reply_byte}
use Rattle.dlp_replies.specs.ReplyValues.{ReplyValue, Refused}
use Rattle.dlp_replies.specs.Shapes.{Shape, Unknown, Bare, One, shape_of}

-- the bytes are the function, one argument, no error, and then one of the texts of cells whose
-- lengths agree and whose
-- values say this
pub record IsOne (first : ℕ) (kinds : List CellKind) (sizes : Fields kinds → Bool)
    (checks : Fields kinds → Checks) (make : Fields kinds
    → ReplyValue) (value : ReplyValue) (bytes : List ℕ) : Type 0 where
  pub fields : Fields kinds
  pub form : HeaderForm
  pub content : List ℕ
  pub text : List ℕ
  pub argument : ArgText form (record { id = 0x20; bytes = content }) text
  pub fields_text : AreFields kinds fields content
  pub measured : sizes fields ≡ true
  pub valid : first_bad (checks fields) ≡ None
  pub made : make fields ≡ value
  pub is : bytes ≡ first ∷ 1 ∷ 0 ∷ 0 ∷ text

-- the bytes are a text of a reply of this shape
abbrev pub IsShape : ℕ → Shape → ReplyValue → List ℕ → Type 0
IsShape first Unknown value bytes = true ≡ false
IsShape first (Bare done) value bytes = (value ≡ done) × (bytes ≡ first ∷ 0 ∷ 0 ∷ 0 ∷ [])
IsShape first (One kinds sizes checks make) value bytes =
    IsOne first kinds sizes checks make value bytes

-- the bytes are the function, no argument, and an error other than 0
abbrev pub IsRefusal : ℕ → ReplyValue → List ℕ → Type 0
IsRefusal number value bytes =
    (code : ℕ) × (0 < code) × (code < 2 ^ 16) × (value ≡ Refused number code)
    × (bytes ≡ reply_byte number ∷ 0 ∷ to_be_bytes w16 code)

-- the bytes are a text of a reply to the function: a refusal, or what its shape says
abbrev pub ReplyText : ℕ → ReplyValue → List ℕ → Type 0
ReplyText number value bytes =
    IsRefusal number value bytes
    ⊎ IsShape (reply_byte number) (shape_of (function_of number)) value bytes
