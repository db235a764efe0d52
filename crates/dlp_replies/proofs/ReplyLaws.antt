-- What is read is a text of the reply, and each text of a reply is read.
use Rattle.std.proofs.lemmas.Bool.Decides.{nat_tests}
use Rattle.std.proofs.lemmas.Grind.{common_steps}
use Rattle.std.proofs.Common.{◌≡◌, ℕ, zero, suc, ◌^◌, ◌<◌, Bool, true, false, eqb, List, [], ◌∷◌, ◌++◌, length, Option, Some, None, Result, Ok, refl, sym, ap}
use Rattle.std.proofs.Common.{subst, ◌∙◌, arith, inl, inr}
use Rattle.std.specs.Prelude.{IfOk}
use Rattle.std.specs.Int.{w16, from_be_bytes, to_be_bytes}
use Rattle.std.proofs.lemmas.Bool.{eqb-true, eqb-false, eq-eqb}
use Rattle.std.proofs.lemmas.List.{append-nil, drop_at}
use Rattle.dlp_args.specs.Arguments.{Argument, header, ArgText, ArgTexts}
use Rattle.dlp_args.specs.Reading.{◌>>=◌, arguments_at}
use Rattle.dlp_args.specs.Views.{Gives}
use Rattle.dlp_args.specs.declared.fault.ArgFault.{ArgFault}
use Rattle.dlp_args.proofs.NumberLaws.{IsBytes, IsBytes-drop, IsBytes-rest, chosen, ok_is, wide16}
use Rattle.dlp_args.proofs.ArgumentLaws.{arguments_take, arguments_again}
use Rattle.dlp_args.specs.Functions.{function_of}
use Rattle.dlp_args.specs.Cells.{CellKind}
use Rattle.dlp_args.specs.Fields.{Fields, fields_in}
use Rattle.dlp_args.proofs.CellLaws.{fields_take, fields_again}
use Rattle.dlp_replies.specs.declared.fault.ReplyFault.{ReplyFault}
use Rattle.dlp_replies.specs.declared.reply.Reply.{Reply}
use Rattle.dlp_replies.specs.Faults.{of_arguments, or_argument, or_size, or_value}
use Rattle.dlp_replies.specs.Checks.{first_bad}
use Rattle.dlp_replies.specs.ReplyReading.{reply_byte, measured_in, valid_in, only_content, without, reply_by, reply_at}
use Rattle.dlp_replies.specs.ReplyTexts.{IsShape, IsRefusal, ReplyText}
use Rattle.dlp_replies.specs.ReplyValues.{ReplyValue, Refused}
use Rattle.dlp_replies.specs.Shapes.{Shape, Unknown, Bare, One, shape_of}
use Rattle.dlp_replies.specs.Views.{reply_value}

IsBytes-back : (front back : List ℕ) → IsBytes (front ++ back) → IsBytes back
IsBytes-back front back fits = subst IsBytes (drop_at front back (length front) refl) (IsBytes-drop (length front) (front ++ back) fits)

done : {A B : Type 0} (r : Result A ReplyFault) (f : A → Result B ReplyFault) (y : B) → (r >>= f) ≡ Ok y → (x : A) × (r ≡ Ok x) × (f x ≡ Ok y)
done r f y e = grind arith

or_size_is : {A : Type 0} (o : Option A) (y : A) → or_size o ≡ Ok y → o ≡ Some y
or_size_is o y e = grind arith

or_argument_is : {A : Type 0} (o : Option A) (y : A) → or_argument o ≡ Ok y → o ≡ Some y
or_argument_is o y e = grind arith

of_arguments_is : {A : Type 0} (r : Result A ArgFault) (y : A) → of_arguments r ≡ Ok y → r ≡ Ok y
of_arguments_is r y e = grind arith

or_value_is : {A : Type 0} (place : ℕ) (bad : Option ℕ) (x y : A) → or_value place bad x ≡ Ok y → (bad ≡ None) × (x ≡ y)
or_value_is place bad x y e = grind arith

measured_is : (kinds : List CellKind) (sizes : Fields kinds → Bool) (content : List ℕ) (fields : Fields kinds) → measured_in kinds sizes content ≡ Some fields
    → (fields_in kinds content ≡ Some fields) × (sizes fields ≡ true)
measured_is kinds sizes content fields e = grind arith

without_is : (value found : ReplyValue) (arguments : List Argument) (bytes : List ℕ) → ArgTexts arguments bytes → without value arguments ≡ Ok found
    → (found ≡ value) × (length arguments ≡ 0) × (bytes ≡ [])
without_is value found arguments bytes texts e = grind arith

-- what follows the function, the count and the error
pub no_truth : true ≡ false → ⊥
no_truth e = cc

pub shape_takes : (first : ℕ) (s : Shape) (end : ℕ) (arguments : List Argument) (bytes : List ℕ) (value : ReplyValue) → IsBytes bytes
    → ArgTexts arguments bytes → reply_by s end arguments ≡ Ok value → IsShape first s value (first ∷ length arguments ∷ 0 ∷ 0 ∷ bytes)
unfolding reply_by valid_in
shape_takes first Unknown end arguments bytes found fits texts e = absurd cc
shape_takes first (Bare value) end arguments bytes found fits texts e = grind (arith, nat_tests, common_steps)
shape_takes first (One kinds sizes checks make) end [] bytes found fits texts e = absurd cc
shape_takes first (One kinds sizes checks make) end (argument ∷ []) bytes found fits texts e =
    let content = done (or_argument (only_content (argument ∷ []))) _ found e in
    let step = done (valid_in kinds sizes checks _ content.0) _ found content.2 in
    let fields = done (or_size (measured_in kinds sizes content.0)) _ step.0 step.1 in
    let measured = measured_is kinds sizes content.0 fields.0 (or_size_is _ fields.0 fields.1) in
    let made = or_value_is _ (first_bad (checks fields.0)) fields.0 step.0 fields.2 in
    elim (chosen (eqb argument.id 0x20) _ _ (Some content.0) (or_argument_is _ content.0 content.1)) [
      | inl this ↦
          let id-is : argument.id ≡ 0x20 = eqb-true _ _ this.0 in
          let content-is : argument.bytes ≡ content.0 = let s = this.1 in cc in
          let whole : bytes ≡ texts.1 = texts.4 ∙ ap (λ (xs : List ℕ). texts.1 ++ xs) texts.5 ∙ append-nil texts.1 in
          let content-fits : IsBytes argument.bytes = IsBytes-back (header texts.0 argument.id (length argument.bytes)) argument.bytes
          (subst IsBytes texts.3.is (subst IsBytes whole fits)) in
          record {
            fields = fields.0;
            form = texts.0;
            content = argument.bytes;
            text = texts.1;
            argument = subst (λ (k : ℕ). ArgText texts.0 (record { id = k; bytes = argument.bytes }) texts.1) id-is texts.3;
            fields_text = fields_take kinds argument.bytes fields.0 content-fits (ap (fields_in kinds) content-is ∙ measured.0);
            measured = measured.1;
            valid = made.0;
            made = ap make made.1 ∙ ok_is _ found step.2;
            is = ap (λ (xs : List ℕ). first ∷ 1 ∷ 0 ∷ 0 ∷ xs) whole;
          }
      | inr other ↦ let no = other.1 in absurd cc
    ]
shape_takes first (One kinds sizes checks make) end (argument ∷ second ∷ more) bytes found fits texts e = absurd cc

pub shape_again : (first : ℕ) (s : Shape) (value : ReplyValue) (rest : List ℕ) (end : ℕ) → IsShape first s value (first ∷ rest)
    → (arguments : List Argument) × (bytes : List ℕ) × (rest ≡ length arguments ∷ 0 ∷ 0 ∷ bytes) × ArgTexts arguments bytes
    × (reply_by s end arguments ≡ Ok value)
unfolding reply_by valid_in
shape_again first Unknown value rest end is = absurd (no_truth is)
shape_again first (Bare done) value rest end is = grind (arith, nat_tests, common_steps)
shape_again first (One kinds sizes checks make) value rest end is =
    let e = is.is in
    let r : rest ≡ 1 ∷ 0 ∷ 0 ∷ is.text = cc in
    let read : fields_in kinds is.content ≡ Some is.fields = fields_again kinds is.fields is.content is.fields_text in (
      record { id = 0x20; bytes = is.content } ∷ [],
      is.text,
      r,
      (is.form, is.text, [], is.argument, sym (append-nil is.text), refl),
      rw (read, is.measured, is.valid) (ap (λ (a : ReplyValue). Ok a) is.made),
    )

-- ---- the whole message

positive : (n : ℕ) → (n ≡ 0 → ⊥) → 0 < n
positive n some = omega (arith, some)

code_fits : (high low : ℕ) (bytes : List ℕ) (first count : ℕ) → IsBytes (first ∷ count ∷ high ∷ low ∷ bytes) → IsBytes (high ∷ low ∷ [])
code_fits high low bytes first count fits zero = fits 2
code_fits high low bytes first count fits (suc zero) = fits 3
code_fits high low bytes first count fits (suc (suc i)) = omega arith

code_is : (high low : ℕ) → from_be_bytes w16 (high ∷ low ∷ []) ≡ 0 → (high ≡ 0) × (low ≡ 0)
code_is high low e = (omega (arith, e), omega (arith, e))

pub reply_takes : (number : ℕ) (bytes : List ℕ) (value : ReplyValue) → IsBytes bytes → reply_at number bytes ≡ Ok value → ReplyText number value bytes
unfolding reply_at
reply_takes number [] value fits e = absurd cc
reply_takes number (a ∷ []) value fits e = absurd cc
reply_takes number (a ∷ b ∷ []) value fits e = absurd cc
reply_takes number (a ∷ b ∷ c ∷ []) value fits e = absurd cc
reply_takes number (first ∷ count ∷ high ∷ low ∷ bytes) value fits e =
    let code = from_be_bytes w16 (high ∷ low ∷ []) in
    let end = length (first ∷ count ∷ high ∷ low ∷ bytes) in
    let rest-fits = IsBytes-rest low bytes (IsBytes-rest high (low ∷ bytes)
    (IsBytes-rest count (high ∷ low ∷ bytes) (IsBytes-rest first (count ∷ high ∷ low ∷ bytes) fits))) in
    elim (chosen (eqb first (reply_byte number)) _ _ (Ok value) e) [
      | inl this ↦
          let first-is : first ≡ reply_byte number = eqb-true _ _ this.0 in
          let arguments = done (of_arguments (arguments_at count 4 bytes)) _ value this.1 in
          let texts = arguments_take count 4 bytes arguments.0 rest-fits (of_arguments_is _ _ arguments.1) in
          elim (chosen (eqb code 0) _ _ (Ok value) arguments.2) [
            | inl none ↦
                let zeros = code_is high low (eqb-true _ _ none.0) in
                let found = shape_takes first (shape_of (function_of number)) end arguments.0 bytes value rest-fits texts.0 none.1 in
                let there : IsShape first (shape_of (function_of number)) value (first ∷ count ∷ high ∷ low ∷ bytes) = subst
                (IsShape first (shape_of (function_of number)) value) (λ i. first ∷ texts.1 i ∷ sym zeros.0 i ∷ sym zeros.1 i ∷ bytes) found in
                inr (subst (λ (n : ℕ). IsShape n (shape_of (function_of number)) value (first ∷ count ∷ high ∷ low ∷ bytes)) first-is there)
            | inr some ↦
                let w = without_is (Refused number code) value arguments.0 bytes texts.0 some.1 in
                let back : to_be_bytes w16 code ≡ high ∷ low ∷ [] = wide16.back (high ∷ low ∷ []) refl (λ i. code_fits high low bytes first count fits i) in
                let less : code < 2 ^ 16 = wide16.below (high ∷ low ∷ []) (λ i. code_fits high low bytes first count fits i) in
                let more : 0 < code = positive code (eqb-false _ _ some.0) in
                let count-is : count ≡ 0 = sym texts.1 ∙ w.1 in
                inl (code, more, less, w.0, (λ i. first-is i ∷ count-is i ∷ high ∷ low ∷ w.2 i) ∙ ap (λ (xs : List ℕ). reply_byte number ∷ 0 ∷ xs) (sym back))
          ]
      | inr other ↦ let no = other.1 in absurd cc
    ]

refusal_again : (number : ℕ) (value : ReplyValue) (bytes : List ℕ) → IsRefusal number value bytes → reply_at number bytes ≡ Ok value
unfolding reply_at arguments_at
refusal_again number value bytes is = grind arith

-- a text of a shape begins with its first byte
starts : (first : ℕ) (s : Shape) (value : ReplyValue) (bytes : List ℕ) → IsShape first s value bytes → (rest : List ℕ) × (bytes ≡ first ∷ rest)
starts first s value bytes is = grind arith

reply_by_again : (number : ℕ) (value : ReplyValue) (bytes : List ℕ) → IsShape (reply_byte number) (shape_of (function_of number)) value bytes
    → reply_at number bytes ≡ Ok value
unfolding reply_at
reply_by_again number value bytes is =
    let s = shape_of (function_of number) in
    let first = reply_byte number in
    let front = starts first s value bytes is in
    let there = shape_again first s value front.0 (length bytes) (subst (IsShape first s value) front.1 is) in
    let whole : bytes ≡ first ∷ length there.0 ∷ 0 ∷ 0 ∷ there.1 = front.1 ∙ ap (λ (xs : List ℕ). first ∷ xs) there.2 in
    let same : eqb first first ≡ true = eq-eqb _ _ refl in
    let read : arguments_at (length there.0) 4 there.1 ≡ Ok there.0 = arguments_again there.0 4 there.1 there.3 in
    let end-is : length (first ∷ length there.0 ∷ 0 ∷ 0 ∷ there.1) ≡ length bytes = ap length (sym whole) in
    ap (reply_at number) whole ∙ rw (same, read) (ap (λ (k : ℕ). reply_by s k there.0) end-is ∙ there.4)

pub reply_again : (number : ℕ) (value : ReplyValue) (bytes : List ℕ) → ReplyText number value bytes → reply_at number bytes ≡ Ok value
unfolding reply_at
reply_again number value bytes (inl refused) = refusal_again number value bytes refused
reply_again number value bytes (inr is) = reply_by_again number value bytes is

pub is_found : (number : ℕ) (bytes : List ℕ) (r : Result Reply ReplyFault) → IsBytes bytes → Gives reply_value r (reply_at number bytes)
    → IfOk r (λ reply. ReplyText number (reply_value reply) bytes)
is_found number bytes r fits gives = grind (arith, nat_tests, common_steps, reply_takes)
