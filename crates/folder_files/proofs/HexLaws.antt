-- Bytes and their lower-case hexadecimal: what is read is written so, and what is written so is read.
use Rattle.std.proofs.lemmas.Bool.Decides.{nat_tests}
use Rattle.std.proofs.lemmas.Grind.{common_steps}
use Rattle.std.proofs.Common.{◌≡◌, ◌⊎◌, ℕ, suc, ◌+◌, ◌*◌, ◌/◌, ◌%◌, ◌<◌, ◌≤◌, Bool, true, false, cond, eqb, List, [], ◌∷◌, length, get_or, Option, Some, None}
use Rattle.std.proofs.Common.{Result, Ok, Err, refl, sym, ap, ◌∙◌, arith}
use Rattle.std.specs.Prelude.{bytes_eq, option_and_then}
use Rattle.std.specs.List.{position_or_len}
use Rattle.std.specs.Option.{option_map}
use Rattle.std.specs.Result.{result_ok}
use Rattle.std.proofs.lemmas.Bool.{eqb-false, le-ltb, ne_eqb}
use Rattle.hex.specs.Hex.{IsBytes, decode_sized, encode_lower, encode_with, lower_digits}
use Rattle.hex.specs.declared.error.FromHexError.{FromHexError}
use Rattle.hex.proofs.HexLemmas.{decode_of-ok, decode_sized-encode_lower, decode_sized-ok, decode_sized-twice, length-encode_with}
use Rattle.pdb_values.proofs.NamedLaws.{bytes_eq-other, bytes_eq-own, bytes_eq-is}
use Rattle.folder_files.specs.Hexadecimal.{bytes_in, bytes_text, few_bytes_in}

-- ---- steps that did not fail

pub bind_some : {A B : Type 0} (o : Option A) (f : A → Option B) (y : B) → option_and_then f o ≡ Some y → (x : A) × (o ≡ Some x) × (f x ≡ Some y)
bind_some o f y e = grind arith

pub map_some : {A B : Type 0} (o : Option A) (f : A → B) (y : B) → option_map f o ≡ Some y → (x : A) × (o ≡ Some x) × (f x ≡ y)
map_some o f y e = grind arith

pub guard_some : {A : Type 0} (b : Bool) (o : Option A) (y : A) → cond b None o ≡ Some y → (b ≡ false) × (o ≡ Some y)
guard_some b o y e = grind arith

pub test_some : {A : Type 0} (b : Bool) (o : Option A) (y : A) → cond b o None ≡ Some y → (b ≡ true) × (o ≡ Some y)
test_some b o y e = grind arith

pub some_is : {A : Type 0} (x y : A) → (let o : Option A = Some x in o) ≡ Some y → x ≡ y
some_is x y e = cc

pub chosen : {A : Type 0} (b : Bool) (x y z : A) → cond b x y ≡ z → ((b ≡ true) × (x ≡ z)) ⊎ ((b ≡ false) × (y ≡ z))
chosen b x y z e = grind arith

-- ---- equal bytes

-- ---- exactly so many bytes

spelled : (text : List ℕ) (r : Result (List ℕ) FromHexError) (bytes : List ℕ)
    → option_and_then (λ found. cond (bytes_eq (encode_lower found) text) (Some found) None) (result_ok r) ≡ Some bytes
    → (r ≡ Ok bytes) × (text ≡ encode_lower bytes)
spelled text (Err fault) bytes e = absurd cc
spelled text (Ok found) bytes e =
    let test = test_some (bytes_eq (encode_lower found) text) (Some found) bytes e in
    let is : found ≡ bytes = some_is found bytes test.1 in
    (ap (λ (b : List ℕ). let r : Result (List ℕ) FromHexError = Ok b in r) is, sym (bytes_eq-is _ _ test.0) ∙ ap encode_lower is)

pub bytes_in-found : (count : ℕ) (text bytes : List ℕ) → bytes_in count text ≡ Some bytes → (text ≡ encode_lower bytes) × (length bytes ≡ count) × IsBytes bytes
unfolding bytes_in
bytes_in-found count text bytes e =
    let is = spelled text (decode_sized text count) bytes e in
    let twice : length text ≡ 2 * count = decode_sized-ok text count bytes is.0 in
    let ok = decode_of-ok text bytes (sym (decode_sized-twice text count twice) ∙ is.0) in
    let len : length text ≡ 2 * length bytes = ok.2 in
    (is.1, omega arith, ok.3)

pub bytes_in-only : (bytes : List ℕ) (count : ℕ) → length bytes ≡ count → IsBytes bytes → bytes_in count (encode_lower bytes) ≡ Some bytes
unfolding bytes_in
bytes_in-only bytes count len fits = grind (arith, nat_tests, common_steps, decode_sized-encode_lower, bytes_eq-own)

-- ---- none to 40 bytes

text_of_some : (bytes : List ℕ) → 0 < length bytes → bytes_text bytes ≡ encode_lower bytes
text_of_some bytes some = grind arith

pub few_bytes_in-found : (text bytes : List ℕ) → few_bytes_in text ≡ Some bytes → (text ≡ bytes_text bytes) × IsBytes bytes
unfolding few_bytes_in
few_bytes_in-found text bytes e =
    grind (arith, nat_tests, common_steps, chosen, some_is, bytes_eq-is, guard_some, bytes_in-found, length-encode_with, eqb-false, text_of_some)

pub few_bytes_in-only : (bytes : List ℕ) → length bytes ≤ 40 → IsBytes bytes → few_bytes_in (bytes_text bytes) ≡ Some bytes
unfolding few_bytes_in
few_bytes_in-only [] few fits = refl
few_bytes_in-only (byte ∷ bytes) few fits = grind (arith, nat_tests, common_steps, length-encode_with, bytes_eq-other, ne_eqb, le-ltb, bytes_in-only)

-- ---- no line feed

-- where the first line feed stands, or the length
abbrev pub feed_place : List ℕ → ℕ
feed_place bytes = position_or_len (λ byte. eqb byte 10) bytes

-- no line feed is among the bytes
abbrev pub HasNoFeed : List ℕ → Type 0
HasNoFeed bytes = feed_place bytes ≡ length bytes

pub feed_past : (byte : ℕ) (bytes : List ℕ) → eqb byte 10 ≡ false → feed_place (byte ∷ bytes) ≡ 1 + feed_place bytes
feed_past byte bytes other = rw other refl

digit_is_no_feed : (digit : ℕ) → digit < 16 → eqb (get_or lower_digits digit 0) 10 ≡ false
digit_is_no_feed digit small = grind arith

pub encode_lower-no_feed : (bytes : List ℕ) → IsBytes bytes → HasNoFeed (encode_lower bytes)
unfolding encode_with
encode_lower-no_feed [] fits = refl
encode_lower-no_feed (byte ∷ bytes) fits =
    let high = digit_is_no_feed (byte / 16) (omega (arith, fits 0)) in
    let low = digit_is_no_feed (byte % 16) (omega arith) in
    let more = encode_lower-no_feed bytes (λ i. fits (suc i)) in
    omega (
      arith,
      feed_past (get_or lower_digits (byte / 16) 0) (get_or lower_digits (byte % 16) 0 ∷ encode_lower bytes) high,
      feed_past (get_or lower_digits (byte % 16) 0) (encode_lower bytes) low,
    )

pub bytes_text-no_feed : (bytes : List ℕ) → IsBytes bytes → HasNoFeed (bytes_text bytes)
bytes_text-no_feed bytes fits = grind (arith, nat_tests, common_steps, encode_lower-no_feed)
