-- The reply of bytes, or the first rule that they break (pilot-link, `dlp.c`).
use Rattle.std.specs.Prelude.{ℕ, ◌+◌, ◌-◌, List, [], ◌∷◌, length, Option, Some, None, option_and_then, Bool, Result, Ok, Err, ◌==◌, nat_lt, if◌then◌else◌}
use Rattle.std.specs.Int.{w16, from_be_bytes}
use Rattle.dlp_args.specs.Arguments.{Argument}
use Rattle.dlp_args.specs.Reading.{◌>>=◌, arguments_at}
use Rattle.dlp_args.specs.Functions.{function_of}
use Rattle.dlp_args.specs.Cells.{CellKind}
use Rattle.dlp_args.specs.Fields.{Fields, fields_in}
use Rattle.dlp_replies.specs.declared.fault.ReplyFault.{ReplyFault}
use Rattle.dlp_replies.specs.declared.fault.ReplyFault.TheVariants as fault
use Rattle.dlp_replies.specs.Faults.{of_arguments, or_argument, or_size, or_value}
use Rattle.dlp_replies.specs.Checks.{Checks, first_bad}
use Rattle.dlp_replies.specs.ReplyValues.{ReplyValue, Refused}
use Rattle.dlp_replies.specs.Shapes.{Shape, Unknown, Bare, One, shape_of}

-- the function of a request with 0x80 set
unfoldable pub reply_byte : ℕ → ℕ
reply_byte number = if nat_lt number 0x80 then number + 0x80 else number

-- what the cells of an argument's content hold, where its lengths are those of the layout
abbrev pub measured_in : (kinds : List CellKind) → (Fields kinds → Bool) → List ℕ
    → Option (Fields kinds)
measured_in kinds sizes content =
    option_and_then (λ v. if sizes v then Some v else None) (fields_in kinds content)

-- the same where its values are some; the content begins at this place
unfoldable pub valid_in : (kinds : List CellKind) → (Fields kinds → Bool)
    → (Fields kinds → Checks) → ℕ → List ℕ → Result (Fields kinds) ReplyFault
valid_in kinds sizes checks place content =
    or_size (measured_in kinds sizes content) >>= λ v. or_value place (first_bad (checks v)) v

-- what they say
abbrev pub made_in : (kinds : List CellKind) → (Fields kinds → Bool) → (Fields kinds → Checks)
    → (Fields kinds → ReplyValue) → ℕ → List ℕ
    → Result ReplyValue ReplyFault
made_in kinds sizes checks make place content =
    valid_in kinds sizes checks place content >>= λ v. Ok (make v)

-- what the one argument has, which bears the id 0x20
abbrev pub only_content : List Argument → Option (List ℕ)
only_content [] = None
only_content (argument ∷ []) = if argument.id == 0x20 then Some argument.bytes else None
only_content (argument ∷ second ∷ more) = None

abbrev pub no_arguments : List Argument → Result (Unit {0}) ReplyFault
no_arguments [] = Ok tt
no_arguments (argument ∷ arguments) = Err fault.Argument

-- a reply without arguments
abbrev pub without : ReplyValue → List Argument → Result ReplyValue ReplyFault
without value arguments = no_arguments arguments >>= λ none. Ok value

-- a reply of this shape; its one argument is the last thing before the end of the message
unfoldable pub reply_by : Shape → ℕ → List Argument → Result ReplyValue ReplyFault
reply_by Unknown end arguments = Err fault.Argument
reply_by (Bare value) end arguments = without value arguments
reply_by (One kinds sizes checks make) end arguments =
    or_argument (only_content arguments) >>= λ content. made_in kinds sizes checks make
    (end - length content) content

-- a reply with this error, where 0 is none
abbrev pub answer_of : ℕ → ℕ → ℕ → List Argument → Result ReplyValue ReplyFault
answer_of number code end arguments =
    if code == 0 then reply_by (shape_of (function_of number)) end arguments
    else without (Refused number code) arguments

-- the function with 0x80 set, the number of arguments, the error, and the arguments
unfoldable pub reply_at : ℕ → List ℕ → Result ReplyValue ReplyFault
reply_at number (first ∷ count ∷ high ∷ low ∷ bytes) =
    if first == reply_byte number
    then of_arguments (arguments_at count 4 bytes) >>= answer_of number
    (from_be_bytes w16 (high ∷ low ∷ []))
    (length (first ∷ count ∷ high ∷ low ∷ bytes)) else Err (fault.Function first)
reply_at number [] = Err (fault.Wrapper 0)
reply_at number (a ∷ []) = Err (fault.Wrapper 0)
reply_at number (a ∷ b ∷ []) = Err (fault.Wrapper 0)
reply_at number (a ∷ b ∷ c ∷ []) = Err (fault.Wrapper 0)
