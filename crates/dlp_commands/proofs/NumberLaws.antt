-- A request bears the byte of its function, and fields within the bounds of its layout.
use Rattle.std.proofs.lemmas.Bool.Decides.{nat_tests}
use Rattle.std.proofs.lemmas.Grind.{common_steps}
use Rattle.std.proofs.Common.{◌≡◌, ◌∙◌, ℕ, Bool, true, false, cond, List, [], ◌∷◌, Option, Some, None, Ok, refl, ap, arith}
use Rattle.std.specs.Prelude.{◌==◌}
use Rattle.std.specs.Option.{option_map}
use Rattle.dlp_args.specs.Arguments.{Argument}
use Rattle.dlp_args.specs.Cells.{Cell, CellFits, IsCell, CellKind, Byte, Half, Word, Pad, Run, Text, MaybeText, Rest, Counted, Whole, Names}
use Rattle.dlp_args.specs.Fields.{AreFields, Fields, FieldsFit, fields_in}
use Rattle.dlp_args.specs.Functions as functions
use Rattle.dlp_args.specs.declared.function.Function.{Function}
use Rattle.dlp_args.specs.declared.function.Function.TheVariants as function
use Rattle.dlp_args.proofs.FunctionLaws.{number_is}
use Rattle.dlp_requests.specs.Faults.{or_size}
use Rattle.dlp_requests.specs.Forms as form
use Rattle.dlp_requests.specs.Forms.{Form, argument_of, kinds_of, number_of}
use Rattle.dlp_requests.specs.RequestReading.{argument_bytes, by_id_21, request_at, request_by, request_in, request_of, with_or_bare, first_id}
use Rattle.dlp_requests.specs.RequestTexts.{request_text}
use Rattle.dlp_requests.specs.RequestValues.{RequestValue}
use Rattle.dlp_commands.specs.DeviceSteps.{first_byte, function_number}
use Rattle.dlp_requests.proofs.RequestLaws.{done, known_is}

-- ---- the function's byte

or_size_form : (f : Form) (o : Option (Fields (kinds_of f))) (value : RequestValue)
    → or_size (option_map (λ fields. let v : RequestValue = record { form = f; fields = fields } in v) o) ≡ Ok value → value.form ≡ f
or_size_form f o value is = grind (arith, nat_tests, common_steps)

-- a request has the form that it was read by
by_form : (f : Form) (arguments : List Argument) (value : RequestValue) → request_by f arguments ≡ Ok value → value.form ≡ f
by_form f arguments value is =
    let found = done (argument_bytes (argument_of f) arguments) (λ bytes. or_size (request_in f bytes)) value is in
    or_size_form f (fields_in (kinds_of f) found.0) value found.2

by_number : (f : Form) (number : ℕ) (arguments : List Argument) (value : RequestValue) → number_of f ≡ number → request_by f arguments ≡ Ok value
    → number_of value.form ≡ number
by_number f number arguments value same is = ap number_of (by_form f arguments value is) ∙ same

by_two : (this other : Form) (number : ℕ) (id : Option ℕ) (arguments : List Argument) (value : RequestValue) → number_of this ≡ number
    → number_of other ≡ number → by_id_21 this other id arguments ≡ Ok value → number_of value.form ≡ number
by_two this other number None arguments value same also is = by_number other number arguments value also is
by_two this other number (Some id) arguments value same also is = by (id == 0x21) is
  where
    by : (b : Bool) → cond b (request_by this arguments) (request_by other arguments) ≡ Ok value → number_of value.form ≡ number
    by true is = by_number this number arguments value same is
    by false is = by_number other number arguments value also is

by_bare : (this bare : Form) (number : ℕ) (id : Option ℕ) (arguments : List Argument) (value : RequestValue) → number_of this ≡ number
    → number_of bare ≡ number → with_or_bare this bare id arguments ≡ Ok value → number_of value.form ≡ number
by_bare this bare number None arguments value same also is = by_number bare number arguments value also is
by_bare this bare number (Some id) arguments value same also is = by_number this number arguments value same is

of_number : (f : Function) (arguments : List Argument) (value : RequestValue) → request_of f arguments ≡ Ok value
    → number_of value.form ≡ functions.number_of f
unfolding request_of
of_number function.ReadUserInfo arguments value is = by_number form.ReadUserInfo _ arguments value refl is
of_number function.WriteUserInfo arguments value is = by_number form.WriteUserInfo _ arguments value refl is
of_number function.ReadSysInfo arguments value is =
    by_bare form.ReadSysInfoFor form.ReadSysInfo _ (first_id arguments) arguments value refl refl is
of_number function.ReadDbList arguments value is = by_number form.ReadDbList _ arguments value refl is
of_number function.OpenDb arguments value is = by_number form.OpenDb _ arguments value refl is
of_number function.CreateDb arguments value is = by_number form.CreateDb _ arguments value refl is
of_number function.CloseDb arguments value is = by_number form.CloseDb _ arguments value refl is
of_number function.DeleteDb arguments value is = by_number form.DeleteDb _ arguments value refl is
of_number function.ReadAppBlock arguments value is = by_number form.ReadAppBlock _ arguments value refl is
of_number function.WriteAppBlock arguments value is = by_number form.WriteAppBlock _ arguments value refl is
of_number function.ReadSortBlock arguments value is = by_number form.ReadSortBlock _ arguments value refl is
of_number function.WriteSortBlock arguments value is = by_number form.WriteSortBlock _ arguments value refl is
of_number function.ReadNextModifiedRec arguments value is = by_number form.ReadNextModifiedRec _ arguments value refl is
of_number function.ReadRecord arguments value is =
    by_two form.ReadRecordByIndex form.ReadRecordById _ (first_id arguments) arguments value refl refl is
of_number function.WriteRecord arguments value is = by_number form.WriteRecord _ arguments value refl is
of_number function.DeleteRecord arguments value is = by_number form.DeleteRecord _ arguments value refl is
of_number function.ReadResource arguments value is =
    by_two form.ReadResourceByType form.ReadResourceByIndex _ (first_id arguments) arguments value refl refl is
of_number function.WriteResource arguments value is = by_number form.WriteResource _ arguments value refl is
of_number function.DeleteResource arguments value is = by_number form.DeleteResource _ arguments value refl is
of_number function.CleanUpDatabase arguments value is = by_number form.CleanUpDatabase _ arguments value refl is
of_number function.ResetSyncFlags arguments value is = by_number form.ResetSyncFlags _ arguments value refl is
of_number function.AddSyncLogEntry arguments value is = by_number form.AddSyncLogEntry _ arguments value refl is
of_number function.ReadOpenDbInfo arguments value is = by_number form.ReadOpenDbInfo _ arguments value refl is
of_number function.MoveCategory arguments value is = by_number form.MoveCategory _ arguments value refl is
of_number function.OpenConduit arguments value is = by_number form.OpenConduit _ arguments value refl is
of_number function.EndOfSync arguments value is = by_number form.EndOfSync _ arguments value refl is
of_number function.ResetRecordIndex arguments value is = by_number form.ResetRecordIndex _ arguments value refl is
of_number function.ReadRecordIdList arguments value is = by_number form.ReadRecordIdList _ arguments value refl is

-- bytes that are a request begin with the byte of its function
pub function_number-first_byte : (bytes : List ℕ) (value : RequestValue) → request_at bytes ≡ Ok value → function_number value ≡ first_byte bytes
unfolding request_at
function_number-first_byte bytes value is = grind (arith, nat_tests, common_steps, done, of_number, number_is, known_is)

-- and so does the text that is written of a request
pub first_byte-request_text : (value : RequestValue) → first_byte (request_text value) ≡ function_number value
unfolding request_text
first_byte-request_text value = refl

-- ---- the fields

maybe_fits : (limit : ℕ) (o : Option (List ℕ)) (text rest : List ℕ) → IsCell (MaybeText limit) o text rest → CellFits (MaybeText limit) o
maybe_fits limit o text rest is = grind (arith, nat_tests, common_steps)

cell_fits : (k : CellKind) (x : Cell k) (text rest : List ℕ) → IsCell k x text rest → CellFits k x
cell_fits Byte x text rest is = is.1
cell_fits Half x text rest is = is.1
cell_fits Word x text rest is = is.1
cell_fits Pad x text rest is = tt
cell_fits (Run n) x text rest is = is.1
cell_fits Text x text rest is = is.0.1
cell_fits (MaybeText limit) x text rest is = maybe_fits limit x text rest is
cell_fits Rest x text rest is = is.1
cell_fits Counted x text rest is = is.1
cell_fits Whole x text rest is = tt
cell_fits Names x text rest is = (is.1, is.2)

-- fields that have a text keep their bounds
pub FieldsFit-AreFields : (ks : List CellKind) (fields : Fields ks) (bytes : List ℕ) → AreFields ks fields bytes → FieldsFit ks fields
FieldsFit-AreFields [] fields bytes are = tt
FieldsFit-AreFields (k ∷ []) fields bytes are = cell_fits k fields.0 are.0 are.1 are.3
FieldsFit-AreFields (k ∷ l ∷ ks) fields bytes are = (cell_fits k fields.0 are.0 are.1 are.3, FieldsFit-AreFields (l ∷ ks) fields.1 are.1 are.4)
