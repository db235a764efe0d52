-- What is read is a text of the request, each text of a request is read, and what is written is one.
use Rattle.std.proofs.Common.{◌≡◌, ℕ, ◌<◌, ◌≤◌, Bool, true, false, ◌&&◌, eqb, leb, ltb, List, [], ◌∷◌, ◌++◌, length, Option, Some, None, Result, Ok, Err, refl}
use Rattle.std.proofs.Common.{sym, ap, subst, ◌∙◌, arith, inl, inr}
use Rattle.std.specs.Prelude.{IfOk}
use Rattle.std.specs.Option.{option_map}
use Rattle.std.proofs.lemmas.Bool.{eqb-true, eq-eqb, and_parts, leb-true, ltb-true}
use Rattle.std.proofs.lemmas.List.{append-nil, drop_at, length-append}
use Rattle.dlp_args.specs.Arguments.{Argument, header, arg_text, written_form, ArgText, ArgTexts}
use Rattle.dlp_args.specs.Reading.{◌>>=◌, arguments_at}
use Rattle.dlp_args.specs.Views.{Gives}
use Rattle.dlp_args.specs.declared.fault.ArgFault.{ArgFault}
use Rattle.dlp_args.proofs.NumberLaws.{IsBytes, IsBytes-drop, IsBytes-rest, chosen, ok_is}
use Rattle.dlp_args.proofs.ArgumentLaws.{arguments_take, arguments_again, written_text}
use Rattle.dlp_args.specs.declared.function.Function.{Function}
use Rattle.dlp_args.specs.declared.function.Function.TheVariants as function
use Rattle.dlp_args.specs.Functions.{function_of}
use Rattle.dlp_args.specs.Functions as functions
use Rattle.dlp_args.specs.Cells.{CellKind}
use Rattle.dlp_args.specs.Fields.{Fields, fields_in, fields_text, FieldsFit, ends_well}
use Rattle.dlp_args.proofs.CellLaws.{map_some, fields_take, fields_again, fields_written, no_bytes}
use Rattle.dlp_args.proofs.FunctionLaws.{number_is}
use Rattle.dlp_requests.specs.declared.fault.RequestFault.{RequestFault}
use Rattle.dlp_requests.specs.declared.request.Request.{Request}
use Rattle.dlp_requests.specs.Faults.{of_arguments, or_size}
use Rattle.dlp_requests.specs.Forms as form
use Rattle.dlp_requests.specs.Forms.{Form, number_of, argument_of, kinds_of}
use Rattle.dlp_requests.specs.RequestReading.{argument_bytes, request_in, request_by, request_of, first_id, by_id_21, with_or_bare, known, request_at}
use Rattle.dlp_requests.specs.RequestTexts.{HasArgument, RequestText, argument_text, request_text, AreShort, IsRequest}
use Rattle.dlp_requests.specs.RequestValues.{RequestValue}
use Rattle.dlp_requests.proofs.FitLaws.{fields_most, length-fields_text, length-argument_text}
use Rattle.dlp_requests.specs.Views.{request_value}

-- an argument's id is one, only its last cell stands up to the end, and it fits into a message; or there is no argument and no
-- cell
is_well : Option ℕ → List CellKind → Bool
is_well None [] = true
is_well None (k ∷ ks) = false
is_well (Some id) kinds = leb 32 id && (ltb id 64 && (ends_well kinds && leb (fields_most kinds) 65529))

-- the function of a form is read as this form where the first argument has its id, and its layout is one
record IsForm (this : Form) : Type 0 where
  owner : Function
  named : function_of (number_of this) ≡ Some owner
  asked : (arguments : List Argument) → first_id arguments ≡ argument_of this → request_of owner arguments ≡ request_by this arguments
  well : is_well (argument_of this) (kinds_of this) ≡ true

each_is : (this : Form) → IsForm this
unfolding function_of is_well request_of
each_is form.ReadUserInfo = record { owner = function.ReadUserInfo; named = refl; asked = λ arguments first. refl; well = refl }
each_is form.WriteUserInfo = record { owner = function.WriteUserInfo; named = refl; asked = λ arguments first. refl; well = refl }
each_is form.ReadSysInfo = record {
  owner = function.ReadSysInfo;
  named = refl;
  asked = λ arguments first. ap (λ id. with_or_bare form.ReadSysInfoFor form.ReadSysInfo id arguments) first;
  well = refl;
}
each_is form.ReadSysInfoFor = record {
  owner = function.ReadSysInfo;
  named = refl;
  asked = λ arguments first. ap (λ id. with_or_bare form.ReadSysInfoFor form.ReadSysInfo id arguments) first;
  well = refl;
}
each_is form.ReadDbList = record { owner = function.ReadDbList; named = refl; asked = λ arguments first. refl; well = refl }
each_is form.OpenDb = record { owner = function.OpenDb; named = refl; asked = λ arguments first. refl; well = refl }
each_is form.CreateDb = record { owner = function.CreateDb; named = refl; asked = λ arguments first. refl; well = refl }
each_is form.CloseDb = record { owner = function.CloseDb; named = refl; asked = λ arguments first. refl; well = refl }
each_is form.DeleteDb = record { owner = function.DeleteDb; named = refl; asked = λ arguments first. refl; well = refl }
each_is form.ReadAppBlock = record { owner = function.ReadAppBlock; named = refl; asked = λ arguments first. refl; well = refl }
each_is form.WriteAppBlock = record { owner = function.WriteAppBlock; named = refl; asked = λ arguments first. refl; well = refl }
each_is form.ReadSortBlock = record { owner = function.ReadSortBlock; named = refl; asked = λ arguments first. refl; well = refl }
each_is form.WriteSortBlock = record { owner = function.WriteSortBlock; named = refl; asked = λ arguments first. refl; well = refl }
each_is form.ReadNextModifiedRec = record { owner = function.ReadNextModifiedRec; named = refl; asked = λ arguments first. refl; well = refl }
each_is form.ReadRecordById = record {
  owner = function.ReadRecord;
  named = refl;
  asked = λ arguments first. ap (λ id. by_id_21 form.ReadRecordByIndex form.ReadRecordById id arguments) first;
  well = refl;
}
each_is form.ReadRecordByIndex = record {
  owner = function.ReadRecord;
  named = refl;
  asked = λ arguments first. ap (λ id. by_id_21 form.ReadRecordByIndex form.ReadRecordById id arguments) first;
  well = refl;
}
each_is form.WriteRecord = record { owner = function.WriteRecord; named = refl; asked = λ arguments first. refl; well = refl }
each_is form.DeleteRecord = record { owner = function.DeleteRecord; named = refl; asked = λ arguments first. refl; well = refl }
each_is form.ReadResourceByIndex = record {
  owner = function.ReadResource;
  named = refl;
  asked = λ arguments first. ap (λ id. by_id_21 form.ReadResourceByType form.ReadResourceByIndex id arguments) first;
  well = refl;
}
each_is form.ReadResourceByType = record {
  owner = function.ReadResource;
  named = refl;
  asked = λ arguments first. ap (λ id. by_id_21 form.ReadResourceByType form.ReadResourceByIndex id arguments) first;
  well = refl;
}
each_is form.WriteResource = record { owner = function.WriteResource; named = refl; asked = λ arguments first. refl; well = refl }
each_is form.DeleteResource = record { owner = function.DeleteResource; named = refl; asked = λ arguments first. refl; well = refl }
each_is form.CleanUpDatabase = record { owner = function.CleanUpDatabase; named = refl; asked = λ arguments first. refl; well = refl }
each_is form.ResetSyncFlags = record { owner = function.ResetSyncFlags; named = refl; asked = λ arguments first. refl; well = refl }
each_is form.AddSyncLogEntry = record { owner = function.AddSyncLogEntry; named = refl; asked = λ arguments first. refl; well = refl }
each_is form.ReadOpenDbInfo = record { owner = function.ReadOpenDbInfo; named = refl; asked = λ arguments first. refl; well = refl }
each_is form.MoveCategory = record { owner = function.MoveCategory; named = refl; asked = λ arguments first. refl; well = refl }
each_is form.OpenConduit = record { owner = function.OpenConduit; named = refl; asked = λ arguments first. refl; well = refl }
each_is form.EndOfSync = record { owner = function.EndOfSync; named = refl; asked = λ arguments first. refl; well = refl }
each_is form.ResetRecordIndex = record { owner = function.ResetRecordIndex; named = refl; asked = λ arguments first. refl; well = refl }
each_is form.ReadRecordIdList = record { owner = function.ReadRecordIdList; named = refl; asked = λ arguments first. refl; well = refl }

-- ---- a value was read

pub done : {A B : Type 0} (r : Result A RequestFault) (f : A → Result B RequestFault) (y : B) → (r >>= f) ≡ Ok y → (x : A) × (r ≡ Ok x) × (f x ≡ Ok y)
done (Ok x) f y e = (x, refl, e)
done (Err d) f y e = absurd cc

or_size_is : {A : Type 0} (o : Option A) (y : A) → or_size o ≡ Ok y → o ≡ Some y
or_size_is None y e = absurd cc
or_size_is (Some x) y e = cc

of_arguments_is : {A : Type 0} (r : Result A ArgFault) (y : A) → of_arguments r ≡ Ok y → r ≡ Ok y
of_arguments_is (Ok x) y e = cc
of_arguments_is (Err d) y e = absurd cc

IsBytes-back : (front back : List ℕ) → IsBytes (front ++ back) → IsBytes back
IsBytes-back front back fits = subst IsBytes (drop_at front back (length front) refl) (IsBytes-drop (length front) (front ++ back) fits)

pub known_is : (number : ℕ) (o : Option Function) (f : Function) → known number o ≡ Ok f → o ≡ Some f
known_is number None f e = absurd cc
known_is number (Some g) f e = cc

argument_takes : (id : Option ℕ) (arguments : List Argument) (bytes content : List ℕ) → IsBytes bytes → ArgTexts arguments bytes
    → argument_bytes id arguments ≡ Ok content → HasArgument id content (length arguments ∷ bytes) × IsBytes content
argument_takes None [] bytes content fits texts e =
    let none : [] ≡ content = ok_is [] content e in
    ((sym none, ap (λ (xs : List ℕ). 0 ∷ xs) texts), subst IsBytes none no_bytes)
argument_takes None (argument ∷ arguments) bytes content fits texts e = absurd cc
argument_takes (Some id) [] bytes content fits texts e = absurd cc
argument_takes (Some id) (argument ∷ []) bytes content fits texts e =
    elim (chosen (eqb argument.id id) _ _ (Ok content) e) [
      | inl this ↦
          let id-is : argument.id ≡ id = eqb-true _ _ this.0 in
          let content-is : argument.bytes ≡ content = ok_is _ _ this.1 in
          let whole : bytes ≡ texts.1 = texts.4 ∙ ap (λ (xs : List ℕ). texts.1 ++ xs) texts.5 ∙ append-nil texts.1 in
          let content-fits : IsBytes argument.bytes = IsBytes-back (header texts.0 argument.id (length argument.bytes)) argument.bytes (subst IsBytes (whole
          ∙ texts.3.is) fits) in
          subst (λ (xs : List ℕ). HasArgument (Some id) xs (1 ∷ bytes) × IsBytes xs) content-is (
            (
              texts.0,
              texts.1,
              subst (λ (k : ℕ). ArgText texts.0 (record { id = k; bytes = argument.bytes }) texts.1) id-is texts.3,
              ap (λ (xs : List ℕ). 1 ∷ xs) whole,
            ),
            content-fits,
          )
      | inr other ↦ let no = other.1 in absurd cc
    ]
argument_takes (Some id) (argument ∷ second ∷ more) bytes content fits texts e = absurd cc

request_by_takes : (this : Form) (arguments : List Argument) (bytes : List ℕ) (value : RequestValue) → IsBytes bytes → ArgTexts arguments bytes
    → request_by this arguments ≡ Ok value → RequestText value (number_of this ∷ length arguments ∷ bytes)
request_by_takes this arguments bytes value fits texts e =
    let only = done (argument_bytes (argument_of this) arguments) _ value e in
    let made = map_some (fields_in (kinds_of this) only.0) _ value (or_size_is _ value only.2) in
    let taken = argument_takes (argument_of this) arguments bytes only.0 fits texts only.1 in
    subst (λ (v : RequestValue). RequestText v (number_of this ∷ length arguments ∷ bytes)) made.2 (record {
      content = only.0;
      rest = length arguments ∷ bytes;
      fields_text = fields_take (kinds_of this) only.0 made.0 taken.1 made.1;
      argument = taken.0;
      is = refl;
    })

two_take : (this other : Form) (id : Option ℕ) (number : ℕ) (arguments : List Argument) (bytes : List ℕ) (value : RequestValue) → number_of this ≡ number
    → number_of other ≡ number → IsBytes bytes → ArgTexts arguments bytes → by_id_21 this other id arguments ≡ Ok value
    → RequestText value (number ∷ length arguments ∷ bytes)
two_take this other None number arguments bytes value one two fits texts e =
    subst (λ (n : ℕ). RequestText value (n ∷ length arguments ∷ bytes)) two (request_by_takes other arguments bytes value fits texts e)
two_take this other (Some id) number arguments bytes value one two fits texts e =
    elim (chosen (eqb id 0x21) _ _ (Ok value) e) [
      | inl first ↦ subst (λ (n : ℕ). RequestText value (n ∷ length arguments ∷ bytes)) one (request_by_takes this arguments bytes value fits texts first.1)
      | inr second ↦ subst (λ (n : ℕ). RequestText value (n ∷ length arguments ∷ bytes)) two (request_by_takes other arguments bytes value fits texts second.1)
    ]

with_or_bare_takes : (id : Option ℕ) (arguments : List Argument) (bytes : List ℕ) (value : RequestValue) → IsBytes bytes → ArgTexts arguments bytes
    → with_or_bare form.ReadSysInfoFor form.ReadSysInfo id arguments ≡ Ok value → RequestText value (0x12 ∷ length arguments ∷ bytes)
with_or_bare_takes None arguments bytes value fits texts e = request_by_takes form.ReadSysInfo arguments bytes value fits texts e
with_or_bare_takes (Some id) arguments bytes value fits texts e = request_by_takes form.ReadSysInfoFor arguments bytes value fits texts e

request_of_takes : (f : Function) (arguments : List Argument) (bytes : List ℕ) (value : RequestValue) → IsBytes bytes → ArgTexts arguments bytes
    → request_of f arguments ≡ Ok value → RequestText value (functions.number_of f ∷ length arguments ∷ bytes)
unfolding request_of
request_of_takes function.ReadUserInfo arguments bytes value fits texts e = request_by_takes form.ReadUserInfo arguments bytes value fits texts e
request_of_takes function.WriteUserInfo arguments bytes value fits texts e = request_by_takes form.WriteUserInfo arguments bytes value fits texts e
request_of_takes function.ReadSysInfo arguments bytes value fits texts e =
    with_or_bare_takes (first_id arguments) arguments bytes value fits texts e
request_of_takes function.ReadDbList arguments bytes value fits texts e = request_by_takes form.ReadDbList arguments bytes value fits texts e
request_of_takes function.OpenDb arguments bytes value fits texts e = request_by_takes form.OpenDb arguments bytes value fits texts e
request_of_takes function.CreateDb arguments bytes value fits texts e = request_by_takes form.CreateDb arguments bytes value fits texts e
request_of_takes function.CloseDb arguments bytes value fits texts e = request_by_takes form.CloseDb arguments bytes value fits texts e
request_of_takes function.DeleteDb arguments bytes value fits texts e = request_by_takes form.DeleteDb arguments bytes value fits texts e
request_of_takes function.ReadAppBlock arguments bytes value fits texts e = request_by_takes form.ReadAppBlock arguments bytes value fits texts e
request_of_takes function.WriteAppBlock arguments bytes value fits texts e = request_by_takes form.WriteAppBlock arguments bytes value fits texts e
request_of_takes function.ReadSortBlock arguments bytes value fits texts e = request_by_takes form.ReadSortBlock arguments bytes value fits texts e
request_of_takes function.WriteSortBlock arguments bytes value fits texts e = request_by_takes form.WriteSortBlock arguments bytes value fits texts e
request_of_takes function.ReadNextModifiedRec arguments bytes value fits texts e = request_by_takes form.ReadNextModifiedRec arguments bytes value fits texts e
request_of_takes function.ReadRecord arguments bytes value fits texts e =
    two_take form.ReadRecordByIndex form.ReadRecordById (first_id arguments) _ arguments bytes value refl refl fits texts e
request_of_takes function.WriteRecord arguments bytes value fits texts e = request_by_takes form.WriteRecord arguments bytes value fits texts e
request_of_takes function.DeleteRecord arguments bytes value fits texts e = request_by_takes form.DeleteRecord arguments bytes value fits texts e
request_of_takes function.ReadResource arguments bytes value fits texts e =
    two_take form.ReadResourceByType form.ReadResourceByIndex (first_id arguments) _ arguments bytes value refl refl fits texts e
request_of_takes function.WriteResource arguments bytes value fits texts e = request_by_takes form.WriteResource arguments bytes value fits texts e
request_of_takes function.DeleteResource arguments bytes value fits texts e = request_by_takes form.DeleteResource arguments bytes value fits texts e
request_of_takes function.CleanUpDatabase arguments bytes value fits texts e = request_by_takes form.CleanUpDatabase arguments bytes value fits texts e
request_of_takes function.ResetSyncFlags arguments bytes value fits texts e = request_by_takes form.ResetSyncFlags arguments bytes value fits texts e
request_of_takes function.AddSyncLogEntry arguments bytes value fits texts e = request_by_takes form.AddSyncLogEntry arguments bytes value fits texts e
request_of_takes function.ReadOpenDbInfo arguments bytes value fits texts e = request_by_takes form.ReadOpenDbInfo arguments bytes value fits texts e
request_of_takes function.MoveCategory arguments bytes value fits texts e = request_by_takes form.MoveCategory arguments bytes value fits texts e
request_of_takes function.OpenConduit arguments bytes value fits texts e = request_by_takes form.OpenConduit arguments bytes value fits texts e
request_of_takes function.EndOfSync arguments bytes value fits texts e = request_by_takes form.EndOfSync arguments bytes value fits texts e
request_of_takes function.ResetRecordIndex arguments bytes value fits texts e = request_by_takes form.ResetRecordIndex arguments bytes value fits texts e
request_of_takes function.ReadRecordIdList arguments bytes value fits texts e = request_by_takes form.ReadRecordIdList arguments bytes value fits texts e

pub request_takes : (bytes : List ℕ) (value : RequestValue) → IsBytes bytes → request_at bytes ≡ Ok value → RequestText value bytes
unfolding request_at
request_takes [] value fits e = absurd cc
request_takes (number ∷ []) value fits e = let f = done (known number (function_of number)) _ value e in let no = f.2 in absurd cc
request_takes (number ∷ count ∷ bytes) value fits e =
    let f = done (known number (function_of number)) _ value e in
    let arguments = done (of_arguments (arguments_at count 2 bytes)) _ value f.2 in
    let rest-fits = IsBytes-rest count bytes (IsBytes-rest number (count ∷ bytes) fits) in
    let texts = arguments_take count 2 bytes arguments.0 rest-fits (of_arguments_is _ _ arguments.1) in
    let found = request_of_takes f.0 arguments.0 bytes value rest-fits texts.0 arguments.2 in
    let is : functions.number_of f.0 ≡ number = sym (number_is number f.0 (known_is number (function_of number) f.0 f.1)) in
    subst (λ (n : ℕ). RequestText value (n ∷ count ∷ bytes)) is (subst (λ (n : ℕ). RequestText value (functions.number_of f.0 ∷ n ∷ bytes)) texts.1 found)

pub is_found : (bytes : List ℕ) (r : Result Request RequestFault) → IsBytes bytes → Gives request_value r (request_at bytes)
    → IfOk r (λ request. RequestText (request_value request) bytes)
is_found bytes (Ok request) fits gives = request_takes bytes (request_value request) fits gives
is_found bytes (Err e) fits gives = tt

-- ---- each text is read

-- the arguments that a text has
record Arguments (id : Option ℕ) (content rest : List ℕ) : Type 0 where
  arguments : List Argument
  bytes : List ℕ
  texts : ArgTexts arguments bytes
  is : rest ≡ length arguments ∷ bytes
  first : first_id arguments ≡ id
  read : argument_bytes id arguments ≡ Ok content

argument_again : (id : Option ℕ) (content rest : List ℕ) → HasArgument id content rest → Arguments id content rest
argument_again None content rest has =
    record { arguments = []; bytes = []; texts = refl; is = has.1; first = refl; read = ap (λ (xs : List ℕ). Ok xs) (sym has.0) }
argument_again (Some id) content rest has = record {
  arguments = record { id = id; bytes = content } ∷ [];
  bytes = has.1;
  texts = (has.0, has.1, [], has.2, sym (append-nil has.1), refl);
  is = has.3;
  first = refl;
  read = rw (eq-eqb id id refl) refl;
}

pub request_again : (value : RequestValue) (bytes : List ℕ) → RequestText value bytes → request_at bytes ≡ Ok value
unfolding request_at
request_again value bytes text =
    let this = value.form in
    let is = each_is this in
    let found = argument_again (argument_of this) text.content text.rest text.argument in
    let read = arguments_again found.arguments 2 found.bytes found.texts in
    let fields = fields_again (kinds_of this) value.fields text.content text.fields_text in
    let asked : request_of is.owner found.arguments ≡ request_by this found.arguments = is.asked found.arguments found.first in
    let by : request_by this found.arguments
    ≡ Ok value = ap (λ (r : Result (List ℕ) RequestFault). r >>= λ content. or_size (request_in this content)) found.read
    ∙ ap (λ (o : Option (Fields (kinds_of this))). or_size
    (option_map (λ (fields : Fields (kinds_of this)). let v : RequestValue = record { form = this; fields = fields } in v) o)) fields in
    ap request_at (text.is ∙ ap (λ (xs : List ℕ). number_of this ∷ xs) found.is)
    ∙ rw (is.named, read) (asked ∙ by)

-- ---- what is written is a text

argument_written : (id : Option ℕ) (kinds : List CellKind) (fields : Fields kinds) → is_well id kinds ≡ true → length (fields_text kinds fields) ≤ 65535
    → HasArgument id (fields_text kinds fields) (argument_text id (fields_text kinds fields))
unfolding is_well
argument_written None [] fields well short = (refl, refl)
argument_written None (k ∷ ks) fields well short = absurd cc
argument_written (Some id) kinds fields well short =
    let low = and_parts (leb 32 id) _ well in
    let high = and_parts (ltb id 64) _ low.1 in
    let content = fields_text kinds fields in (
      written_form (length content),
      arg_text (record { id = id; bytes = content }),
      written_text (record { id = id; bytes = content }) (record { low = leb-true 32 id low.0; high = ltb-true id 64 high.0; size = short }),
      refl,
    )

well_ends : (id : Option ℕ) (kinds : List CellKind) → is_well id kinds ≡ true → ends_well kinds ≡ true
unfolding is_well
well_ends None [] well = refl
well_ends None (k ∷ ks) well = absurd cc
well_ends (Some id) kinds well = (and_parts (ends_well kinds) _ ((and_parts (ltb id 64) _ ((and_parts (leb 32 id) _ well).1)).1)).0

content_short : (id : Option ℕ) (kinds : List CellKind) (fields : Fields kinds) → is_well id kinds ≡ true
    → length (argument_text id (fields_text kinds fields)) < 65535 → length (fields_text kinds fields) ≤ 65535
unfolding is_well
content_short None [] fields well short = omega arith
content_short None (k ∷ ks) fields well short = absurd cc
content_short (Some id) kinds fields well short =
    let content = fields_text kinds fields in
    omega (arith, length-append (header (written_form (length content)) id (length content)) content)

pub request_written : (value : RequestValue) → IsRequest value → RequestText value (request_text value)
unfolding request_text IsRequest
request_written value is =
    let this = value.form in
    let well = (each_is this).well in
    let short = content_short (argument_of this) (kinds_of this) value.fields well is.fits in
    record {
      content = fields_text (kinds_of this) value.fields;
      rest = argument_text (argument_of this) (fields_text (kinds_of this) value.fields);
      fields_text = fields_written (kinds_of this) value.fields (well_ends (argument_of this) (kinds_of this) well) is.fields;
      argument = argument_written (argument_of this) (kinds_of this) value.fields well short;
      is = refl;
    }

-- ---- what fits into a message

well_fits : (id : Option ℕ) (kinds : List CellKind) → is_well id kinds ≡ true → fields_most kinds ≤ 65529
unfolding is_well
well_fits None [] well = omega arith
well_fits None (k ∷ ks) well = absurd cc
well_fits (Some id) kinds well = leb-true _ _ ((and_parts (ends_well kinds) _ ((and_parts (ltb id 64) _ ((and_parts (leb 32 id) _ well).1)).1)).1)

pub IsRequest-short : (value : RequestValue) → FieldsFit (kinds_of value.form) value.fields → AreShort (kinds_of value.form) value.fields → IsRequest value
unfolding IsRequest request_text
IsRequest-short value fits short =
    let content = fields_text (kinds_of value.form) value.fields in
    let len : length content ≤ fields_most (kinds_of value.form) = length-fields_text (kinds_of value.form) value.fields fits short in
    let most : fields_most (kinds_of value.form) ≤ 65529 = well_fits (argument_of value.form) (kinds_of value.form) (each_is value.form).well in
    record { fields = fits; fits = omega (arith, length-argument_text (argument_of value.form) content) }
