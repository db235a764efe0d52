-- What is read is a text of these arguments, and each text of them is read.
use Rattle.std.proofs.lemmas.Bool.Decides.{nat_tests}
use Rattle.std.proofs.lemmas.Grind.{common_steps}
use Rattle.std.proofs.Common.{◌≡◌, ℕ, zero, suc, ◌+◌, ◌-◌, ◌^◌, ◌<◌, ◌≤◌, ltb, List, [], ◌∷◌, ◌++◌, length, take, drop, Result, Ok, refl, sym, ap, subst, ◌∙◌}
use Rattle.std.proofs.Common.{append_assoc, arith, inl, inr}
use Rattle.std.specs.Prelude.{IfOk}
use Rattle.std.specs.Int.{w16, w32, from_be_bytes, to_be_bytes}
use Rattle.std.proofs.lemmas.Bool.{ltb-true, ltb-false, lt-ltb, le-ltb}
use Rattle.std.specs.List.{AllByRecursion}
use Rattle.std.proofs.lemmas.List.Concat.{flat_map-cons}
use Rattle.std.proofs.lemmas.List.{take_at, drop_at, take-append-drop, length-append, length-take}
use Rattle.dlp_args.specs.declared.fault.ArgFault.{ArgFault}
use Rattle.dlp_args.specs.Arguments.{Argument, HeaderForm, Tiny, Short, Long, header, greatest, ArgText, ArgTexts, IsArgument, written_form, arg_text, arg_texts}
use Rattle.dlp_args.specs.Reading.{Header, short_at, long_at, header_at, argument_at, arguments_at}
use Rattle.dlp_args.proofs.NumberLaws.{IsBytes, IsBytes-drop, IsBytes-take, IsBytes-rest, bind_ok, guard_ok, chosen, ok_is, wide16, wide32, front_bytes}

-- the bytes begin with a header
record Heads (bytes : List ℕ) (found : Header) : Type 0 where
  form : HeaderForm
  parts : bytes ≡ header form found.id found.size ++ found.rest
  low : 32 ≤ found.id
  high : found.id < 64
  size : found.size ≤ greatest form
  rest : IsBytes found.rest

short_takes : (place first any : ℕ) (rest : List ℕ) {found : Header} → 128 ≤ first → first < 192 → IsBytes rest → short_at place first rest ≡ Ok found
    → Heads (first ∷ any ∷ rest) found
unfolding short_at
short_takes place first any rest {found} least most fits e =
    let long = guard_ok (ltb (length rest) 2) _ _ e in
    let id = guard_ok (ltb first 160) _ _ long.1 in
    let there : 2 ≤ length rest = ltb-false _ _ long.0 in
    let low : 160 ≤ first = ltb-false _ _ id.0 in
    let first-is : 128 + (first - 128) ≡ first = omega arith in
    subst (Heads (first ∷ any ∷ rest)) (ok_is _ found id.1) (record {
      form = Short any;
      parts = ap (λ (xs : List ℕ). first ∷ any ∷ xs) (sym (take-append-drop 2 rest))
          ∙ ap (λ (xs : List ℕ). first ∷ any ∷ (xs ++ drop 2 rest)) (sym (front_bytes wide16 rest fits there))
          ∙ ap (λ (k : ℕ). k ∷ any ∷ (to_be_bytes w16 (from_be_bytes w16 (take 2 rest)) ++ drop 2 rest)) (sym first-is);
      low = omega arith;
      high = omega arith;
      size = let b : from_be_bytes w16 (take 2 rest) < 2 ^ 16 = wide16.below (take 2 rest) (IsBytes-take 2 rest fits) in omega arith;
      rest = IsBytes-drop 2 rest fits;
    })

long_takes : (place first any : ℕ) (rest : List ℕ) {found : Header} → 64 ≤ first → first < 128 → IsBytes rest → long_at place first rest ≡ Ok found
    → Heads (first ∷ any ∷ rest) found
unfolding long_at
long_takes place first any rest {found} least most fits e =
    let long = guard_ok (ltb (length rest) 4) _ _ e in
    let id = guard_ok (ltb first 96) _ _ long.1 in
    let size = guard_ok (ltb 65535 (from_be_bytes w32 (take 4 rest))) _ _ id.1 in
    let there : 4 ≤ length rest = ltb-false _ _ long.0 in
    let low : 96 ≤ first = ltb-false _ _ id.0 in
    let first-is : 64 + (first - 64) ≡ first = omega arith in
    subst (Heads (first ∷ any ∷ rest)) (ok_is _ found size.1) (record {
      form = Long any;
      parts = ap (λ (xs : List ℕ). first ∷ any ∷ xs) (sym (take-append-drop 4 rest))
          ∙ ap (λ (xs : List ℕ). first ∷ any ∷ (xs ++ drop 4 rest)) (sym (front_bytes wide32 rest fits there))
          ∙ ap (λ (k : ℕ). k ∷ any ∷ (to_be_bytes w32 (from_be_bytes w32 (take 4 rest)) ++ drop 4 rest)) (sym first-is);
      low = omega arith;
      high = omega arith;
      size = ltb-false _ _ size.0;
      rest = IsBytes-drop 4 rest fits;
    })

header_takes : (place : ℕ) (bytes : List ℕ) {found : Header} → IsBytes bytes → header_at place bytes ≡ Ok found → Heads bytes found
unfolding header_at
header_takes place [] fits e = absurd cc
header_takes place (first ∷ []) fits e = absurd cc
header_takes place (first ∷ second ∷ rest) {found} fits e =
    let rest-fits = IsBytes-rest second rest (IsBytes-rest first (second ∷ rest) fits) in
    let id = guard_ok (ltb first 32) _ _ e in
    let low : 32 ≤ first = ltb-false _ _ id.0 in
    elim (chosen (ltb first 64) _ _ (Ok found) id.1) [
      | inl tiny ↦
          let high : first < 64 = ltb-true _ _ tiny.0 in
          let second-fits : second < 256 = fits 1 in
          subst (Heads (first ∷ second ∷ rest)) (ok_is _ found tiny.1)
          (record { form = Tiny; parts = refl; low = low; high = high; size = omega arith; rest = rest-fits })
      | inr more ↦ elim (chosen (ltb first 128) _ _ (Ok found) more.1) [
        | inl long ↦ long_takes place first second rest (ltb-false _ _ more.0) (ltb-true _ _ long.0) rest-fits long.1
        | inr above ↦ elim (chosen (ltb first 192) _ _ (Ok found) above.1) [
          | inl short ↦ short_takes place first second rest (ltb-false _ _ above.0) (ltb-true _ _ short.0) rest-fits short.1
          | inr none ↦ let no = none.1 in absurd cc
        ]
      ]
    ]

-- an argument was taken from the front
pub record Takes (bytes : List ℕ) (argument : Argument) (rest : List ℕ) : Type 0 where
  pub form : HeaderForm
  pub text : List ℕ
  pub is : ArgText form argument text
  pub parts : bytes ≡ text ++ rest
  pub rest_fits : IsBytes rest

pub argument_takes : (place : ℕ) (bytes : List ℕ) (argument : Argument) (rest : List ℕ) → IsBytes bytes → argument_at place bytes ≡ Ok (argument, rest)
    → Takes bytes argument rest
unfolding argument_at
argument_takes place bytes argument rest fits e =
    let step = bind_ok (header_at place bytes) _ e in
    let found = step.0 in
    let head = header_takes place bytes fits step.1 in
    let long = guard_ok (ltb (length found.rest) found.size) _ _ step.2 in
    let there : found.size ≤ length found.rest = ltb-false _ _ long.0 in
    let len : length (take found.size found.rest) ≡ found.size = omega (arith, length-take found.size found.rest) in
    let split : bytes ≡ (header head.form found.id found.size ++ take found.size found.rest) ++ drop found.size found.rest = head.parts
    ∙ ap (λ (xs : List ℕ). header head.form found.id found.size ++ xs) (sym (take-append-drop found.size found.rest))
    ∙ sym (append_assoc (header head.form found.id found.size) _ _) in
    subst (λ (got : Argument × List ℕ). Takes bytes got.0 got.1) (ok_is _ (argument, rest) long.1) (record {
      form = head.form;
      text = header head.form found.id found.size ++ take found.size found.rest;
      is = record { low = head.low; high = head.high; size = rw len head.size; is = rw len refl };
      parts = split;
      rest_fits = IsBytes-drop found.size found.rest head.rest;
    })

pub arguments_take : (count place : ℕ) (bytes : List ℕ) (arguments : List Argument) → IsBytes bytes → arguments_at count place bytes ≡ Ok arguments
    → ArgTexts arguments bytes × (length arguments ≡ count)
unfolding arguments_at
arguments_take zero place [] arguments fits e = grind (arith, nat_tests, common_steps)
arguments_take zero place (byte ∷ bytes) arguments fits e = absurd cc
arguments_take (suc count) place bytes arguments fits e =
    let first = bind_ok (argument_at place bytes) _ e in
    let taken = argument_takes place bytes first.0.0 first.0.1 fits first.1 in
    let others = bind_ok (arguments_at count (place + (length bytes - length first.0.1)) first.0.1) _ first.2 in
    let more = arguments_take count (place + (length bytes - length first.0.1)) first.0.1 others.0 taken.rest_fits others.1 in
    subst (λ (xs : List Argument). ArgTexts xs bytes
    × (length xs ≡ suc count)) (ok_is _ arguments others.2) ((taken.form, taken.text, first.0.1, taken.is, taken.parts, more.0), ap suc more.1)

-- ---- each text is read

short_again : (place id size : ℕ) (rest : List ℕ) → 32 ≤ id → id < 64 → size ≤ 65535
    → short_at place (128 + id) (to_be_bytes w16 size ++ rest) ≡ Ok (record { id = id; size = size; rest = rest })
unfolding short_at
short_again place id size rest low high fits = grind arith

long_again : (place id size : ℕ) (rest : List ℕ) → 32 ≤ id → id < 64 → size ≤ 65535
    → long_at place (64 + id) (to_be_bytes w32 size ++ rest) ≡ Ok (record { id = id; size = size; rest = rest })
unfolding long_at
long_again place id size rest low high fits = grind arith

header_again : (place : ℕ) (form : HeaderForm) (id size : ℕ) (rest : List ℕ) → 32 ≤ id → id < 64 → size ≤ greatest form
    → header_at place (header form id size ++ rest) ≡ Ok (record { id = id; size = size; rest = rest })
unfolding header_at
header_again place form id size rest low high fits = grind (arith, le-ltb, lt-ltb, short_again, long_again)

pub argument_again : (place : ℕ) {form : HeaderForm} {argument : Argument} {text : List ℕ} (rest : List ℕ) → ArgText form argument text
    → argument_at place (text ++ rest) ≡ Ok (argument, rest)
unfolding argument_at
argument_again place {form} {argument} {text} rest is =
    grind (arith, nat_tests, common_steps, append_assoc, le-ltb, length-append, header_again, take_at, drop_at)

pub arguments_again : (arguments : List Argument) (place : ℕ) (bytes : List ℕ) → ArgTexts arguments bytes
    → arguments_at (length arguments) place bytes ≡ Ok arguments
unfolding arguments_at
arguments_again [] place bytes is = ap (arguments_at 0 place) is
arguments_again (argument ∷ arguments) place bytes is =
    grind (arith, nat_tests, common_steps, arguments_again arguments (place + (length bytes - length is.2)) is.2, argument_again)

pub arguments_are : (count start : ℕ) (bytes : List ℕ) (r : Result (List Argument) ArgFault) → IsBytes bytes
    → r ≡ arguments_at count start (drop start bytes) → IfOk r (λ arguments. (length arguments ≡ count) × ArgTexts arguments (drop start bytes))
arguments_are count start bytes r fits e = grind (arith, arguments_take, IsBytes-drop)

pub arguments_only : {count : ℕ} (start : ℕ) (bytes : List ℕ) (arguments : List Argument) → length arguments ≡ count → ArgTexts arguments (drop start bytes)
    → arguments_at count start (drop start bytes) ≡ Ok arguments
arguments_only start bytes arguments len is = rw (← len) (arguments_again arguments start (drop start bytes) is)

-- what is written is a text
pub written_text : (argument : Argument) → IsArgument argument → ArgText (written_form (length argument.bytes)) argument (arg_text argument)
written_text argument is = grind arith

pub written_texts : (arguments : List Argument) → AllByRecursion IsArgument arguments → ArgTexts arguments (arg_texts arguments)
written_texts [] is = refl
written_texts (argument ∷ arguments) is = grind (arith, nat_tests, common_steps, written_texts arguments, written_text, flat_map-cons)
