-- Words: what is read is written so, and what is written so is read.
use Rattle.std.proofs.Common.{◌≡◌, ◌⊎◌, ℕ, suc, ◌+◌, ◌*◌, ◌/◌, ◌^◌, ◌<◌, ◌≤◌, Bool, true, false, cond, eqb, ltb, List, [], ◌∷◌, ◌++◌, length, take, drop}
use Rattle.std.proofs.Common.{Option, Some, None, Result, Ok, Err, refl, sym, ap, ◌∙◌, arith, inl, inr}
use Rattle.std.specs.Prelude.{bytes_eq, option_and_then, position, ◌&&◌}
use Rattle.std.specs.Fmt.{decimal}
use Rattle.std.specs.List.{position_or_len}
use Rattle.std.specs.Option.{option_map}
use Rattle.std.specs.Result.{result_ok}
use Rattle.std.specs.Char.{digit_value}
use Rattle.std.specs.Str.Parse.{digits_value, AllDigits}
use Rattle.std.proofs.lemmas.Bool.{eqb-false, eqb-true, le-ltb, lt-ltb, ltb-false, ltb-true, ne_eqb}
use Rattle.std.proofs.lemmas.Fmt.{decimal_is_IsNumeral}
use Rattle.std.proofs.lemmas.List.{length-append}
use Rattle.std.proofs.lemmas.Slice.Eq.{bytes_eq-Decides}
use Rattle.hex.specs.Hex.{IsBytes, decode_sized, encode_lower}
use Rattle.hex.specs.declared.error.FromHexError.{FromHexError}
use Rattle.hex.proofs.HexLemmas.{decode_of-ok, decode_sized-encode_lower, decode_sized-ok, decode_sized-twice, length-encode_with}
use Rattle.line_script.specs.Words.{split_at_space, number_in, short_in, bytes_in}

-- ---- steps that did not fail

pub bind_some : {A B : Type 0} (o : Option A) (f : A → Option B) (y : B) → option_and_then f o ≡ Some y → (x : A) × (o ≡ Some x) × (f x ≡ Some y)
bind_some (Some x) f y e = (x, refl, e)
bind_some None f y e = absurd cc

pub map_some : {A B : Type 0} (o : Option A) (f : A → B) (y : B) → option_map f o ≡ Some y → (x : A) × (o ≡ Some x) × (f x ≡ y)
map_some (Some x) f y e = (x, refl, cc)
map_some None f y e = absurd cc

pub guard_some : {A : Type 0} (b : Bool) (o : Option A) (y : A) → cond b None o ≡ Some y → (b ≡ false) × (o ≡ Some y)
guard_some true o y e = absurd cc
guard_some false o y e = (refl, e)

pub test_some : {A : Type 0} (b : Bool) (o : Option A) (y : A) → cond b o None ≡ Some y → (b ≡ true) × (o ≡ Some y)
test_some true o y e = (refl, e)
test_some false o y e = absurd cc

pub some_is : {A : Type 0} (x y : A) → (let o : Option A = Some x in o) ≡ Some y → x ≡ y
some_is x y e = cc

pub chosen : {A : Type 0} (b : Bool) (x y z : A) → cond b x y ≡ z → ((b ≡ true) × (x ≡ z)) ⊎ ((b ≡ false) × (y ≡ z))
chosen true x y z e = inl (refl, e)
chosen false x y z e = inr (refl, e)

pub ok_is : {A E : Type 0} (x y : A) → (let r : Result A E = Ok x in r) ≡ Ok y → x ≡ y
ok_is x y e = cc

both_true : (a b : Bool) → (a && b) ≡ true → (a ≡ true) × (b ≡ true)
both_true true b e = (refl, e)
both_true false b e = absurd cc

-- ---- equal bytes

pub bytes_same : (xs : List ℕ) → bytes_eq xs xs ≡ true
bytes_same xs = grind (arith, bytes_eq-Decides xs xs)

pub bytes_is : (xs ys : List ℕ) → bytes_eq xs ys ≡ true → xs ≡ ys
bytes_is xs ys e = grind (arith, e, bytes_eq-Decides xs ys)

-- ---- numbers

pub number_in-found : (word : List ℕ) (number : ℕ) → number_in word ≡ Some number → (word ≡ decimal number) × (number < 2 ^ 32)
unfolding number_in
number_in-found word number e =
    let test = test_some _ (Some (digits_value 10 word)) number e in
    let parts = both_true _ _ test.0 in
    let is : digits_value 10 word ≡ number = some_is _ _ test.1 in
    let small : digits_value 10 word < 2 ^ 32 = ltb-true _ _ parts.1 in
    (sym (bytes_is _ _ parts.0) ∙ ap decimal is, rw (← is) small)

pub number_in-only : (number : ℕ) → number < 2 ^ 32 → number_in (decimal number) ≡ Some number
unfolding number_in
number_in-only number small =
    let value : digits_value 10 (decimal number) ≡ number = (decimal_is_IsNumeral number (omega arith)).1 in
    let less : ltb number (2 ^ 32) ≡ true = lt-ltb _ _ small in
    rw (value, bytes_same (decimal number), less) refl

pub number_in-none : (word : List ℕ) → ((number : ℕ) → number < 2 ^ 32 → word ≡ decimal number → ⊥) → number_in word ≡ None
number_in-none word none = go (number_in word) refl
  where
    go : (o : Option ℕ) → number_in word ≡ o → o ≡ None
    go None e = refl
    go (Some number) e = let found = number_in-found word number e in absurd (none number found.1 found.0)

pub short_in-found : (word : List ℕ) (number : ℕ) → short_in word ≡ Some number → (word ≡ decimal number) × (number < 2 ^ 16)
unfolding short_in
short_in-found word number e = grind (arith, bind_some, number_in-found, guard_some, some_is, ltb-false)

pub short_in-only : (number : ℕ) → number < 2 ^ 16 → short_in (decimal number) ≡ Some number
unfolding short_in
short_in-only number small = grind (arith, le-ltb, number_in-only)

-- ---- bytes

spelled : (text : List ℕ) (r : Result (List ℕ) FromHexError) (bytes : List ℕ)
    → option_and_then (λ found. cond (bytes_eq (encode_lower found) text) (Some found) None) (result_ok r) ≡ Some bytes
    → (r ≡ Ok bytes) × (text ≡ encode_lower bytes)
spelled text (Err fault) bytes e = absurd cc
spelled text (Ok found) bytes e =
    let test = test_some (bytes_eq (encode_lower found) text) (Some found) bytes e in
    let is = some_is found bytes test.1 in
    (ap (λ b. let r = Ok b in r) is, sym (bytes_is _ _ test.0) ∙ ap encode_lower is)

pub bytes_in-found : (most : ℕ) (word bytes : List ℕ) → bytes_in most word ≡ Some bytes
    → (word ≡ encode_lower bytes) × IsBytes bytes × (0 < length bytes) × (length bytes ≤ most)
unfolding bytes_in
bytes_in-found most word bytes e =
    let some = guard_some (eqb (length word) 0) _ bytes e in
    let few = guard_some (ltb (2 * most) (length word)) _ bytes some.1 in
    let is = spelled word (decode_sized word (length word / 2)) bytes few.1 in
    let twice = decode_sized-ok word (length word / 2) bytes is.0 in
    let ok = decode_of-ok word bytes (sym (decode_sized-twice word (length word / 2) twice) ∙ is.0) in
    let len = ok.2 in
    let written = eqb-false (length word) 0 some.0 in
    let within : length word ≤ 2 * most = ltb-false _ _ few.0 in
    (is.1, ok.3, omega arith, omega arith)

pub bytes_in-only : (most : ℕ) (bytes : List ℕ) → IsBytes bytes → 0 < length bytes → length bytes ≤ most → bytes_in most (encode_lower bytes) ≡ Some bytes
unfolding bytes_in
bytes_in-only most bytes fits some few = grind (arith, length-encode_with, ne_eqb, le-ltb, decode_sized-encode_lower, bytes_same)

-- ---- up to the first space

abbrev pub space_place : List ℕ → ℕ
space_place words = position_or_len (λ byte. eqb byte 32) words

cut_at : (words : List ℕ) → space_place words < length words → words ≡ take (space_place words) words ++ 32 ∷ drop (space_place words + 1) words
cut_at [] less = absurd (omega arith)
cut_at (byte ∷ words) less = go (λ inside. cut_at words inside) (eqb byte 32) refl
  where
    go : (space_place words < length words → words ≡ take (space_place words) words ++ 32 ∷ drop (space_place words + 1) words) → (b : Bool)
        → eqb byte 32 ≡ b → byte ∷ words ≡ take (space_place (byte ∷ words)) (byte ∷ words) ++ 32 ∷ drop (space_place (byte ∷ words) + 1) (byte ∷ words)
    go later true e =
        let place : space_place (byte ∷ words) ≡ 0 = rw e refl in
        let is : byte ≡ 32 = eqb-true _ _ e in
        rw (place, is) refl
    go later false e =
        let place : space_place (byte ∷ words) ≡ suc (space_place words) = let past : space_place (byte ∷ words) ≡ 1 + space_place words = rw e refl in
        omega arith in
        let more = later (omega arith) in
        let next : suc (space_place words) + 1 ≡ suc (space_place words + 1) = omega arith in
        rw (place, next) (ap (λ xs. byte ∷ xs) more)

pub split_at_space-found : (words : List ℕ) (parts : List ℕ × List ℕ) → split_at_space words ≡ Some parts → words ≡ parts.0 ++ 32 ∷ parts.1
unfolding split_at_space
split_at_space-found words parts e =
    let got = map_some (position (λ byte. eqb byte 32) words) _ parts e in
    let there = test_some (ltb (space_place words) (length words)) _ got.0 got.1 in
    let is : space_place words ≡ got.0 = some_is _ _ there.1 in
    let cut = cut_at words (ltb-true _ _ there.0) in
    rw (← got.2, ← is) cut

-- a digit is no space
pub digit_is_none : (byte : ℕ) → digit_value byte < 10 → eqb byte 32 ≡ false
digit_is_none byte digit = grind (arith, ne_eqb)

front_of : (front back : List ℕ) → AllDigits 10 front
    → (space_place (front ++ 32 ∷ back) ≡ length front)
    × (take (length front) (front ++ 32 ∷ back) ≡ front) × (drop (length front + 1) (front ++ 32 ∷ back) ≡ back)
front_of [] back digits = (refl, refl, refl)
front_of (byte ∷ front) back digits = grind (arith, digit_is_none, front_of front back digits.1)

longer : (xs back : List ℕ) → length xs < length (xs ++ 32 ∷ back)
longer xs back = omega (arith, length-append xs (32 ∷ back))

pub split_at_space-decimal : (number : ℕ) (back : List ℕ) → number < 2 ^ 32 → split_at_space (decimal number ++ 32 ∷ back) ≡ Some (decimal number, back)
unfolding split_at_space
split_at_space-decimal number back small =
    let front = front_of (decimal number) back (decimal_is_IsNumeral number (omega arith)).0.1 in
    let inside : ltb (length (decimal number)) (length (decimal number ++ 32 ∷ back)) ≡ true = lt-ltb _ _ (longer (decimal number) back) in
    rw (front.0, inside, front.1, front.2) refl
