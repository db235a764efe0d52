-- Stems read back: what is read is the name that the text is the stem of, and each stem is read as its name.
use Rattle.std.proofs.lemmas.Bool.Decides.{nat_tests}
use Rattle.std.proofs.lemmas.Grind.{common_steps}
use Rattle.std.proofs.Common.{◌≡◌, ℕ, zero, suc, ◌+◌, ◌*◌, ◌/◌, ◌%◌, ◌<◌, Bool, true, false, cond, eqb, List, [], ◌∷◌, ◌++◌, Some, Result, Ok, Err}
use Rattle.std.proofs.Common.{refl, sym, ap, subst, ◌∙◌, arith}
use Rattle.std.proofs.lemmas.Bool.{eqb-false, eqb-true, ne_eqb}
use Rattle.std.specs.Prelude.{IfOk}
use Rattle.std.specs.Result.{result_err, result_ok}
use Rattle.std.proofs.lemmas.List.{append-nil}
use Rattle.hex.specs.Hex.{IsBytes}
use Rattle.pdb_values.specs.Names.{IsName, name_fault}
use Rattle.pdb_values.specs.declared.name.NameFault.{NameFault}
use Rattle.pdb_values.specs.Stems.{hex_digit, is_plain, stem_byte, stem_of}
use Rattle.pdb_values.proofs.NamedLaws.{bytes_eq-own, bytes_eq-is}
use Rattle.folder_files.specs.StemTexts.{digit_number, name_in, stem_bytes, stem_in}
use Rattle.folder_files.proofs.HexLaws.{bind_some, some_is, test_some}

-- ---- a stem is read as its name

digit_number-digit : (number : ℕ) → number < 16 → digit_number (hex_digit number) ≡ number
digit_number-digit number small = grind (arith, nat_tests, common_steps)

plain_byte : (byte : ℕ) (text : List ℕ) → eqb byte 37 ≡ false → stem_bytes (byte ∷ text) ≡ byte ∷ stem_bytes text
unfolding stem_bytes
plain_byte byte [] other = refl
plain_byte byte (next ∷ []) other = refl
plain_byte byte (high ∷ low ∷ text) other = rw other refl

no_escape : (byte : ℕ) → is_plain byte ≡ true → eqb byte 37 ≡ false
no_escape byte plain = ne_eqb _ _ (λ e. let bad : is_plain 37 ≡ true = ap is_plain (sym e) ∙ plain in cc)

escaped_byte : (byte : ℕ) (text : List ℕ) → byte < 256 → stem_bytes (37 ∷ hex_digit (byte / 16) ∷ hex_digit (byte % 16) ∷ text) ≡ byte ∷ stem_bytes text
unfolding stem_bytes
escaped_byte byte text small =
    let high = digit_number-digit (byte / 16) (omega arith) in
    let low = digit_number-digit (byte % 16) (omega arith) in
    let is : 16 * digit_number (hex_digit (byte / 16)) + digit_number (hex_digit (byte % 16)) ≡ byte = omega (arith, high, low) in
    ap (λ (b : ℕ). b ∷ stem_bytes text) is

stem_bytes-byte : (byte : ℕ) (text : List ℕ) → byte < 256 → stem_bytes (stem_byte byte ++ text) ≡ byte ∷ stem_bytes text
unfolding stem_byte
stem_bytes-byte byte text small = by (is_plain byte) refl
  where
    by : (plain : Bool) → is_plain byte ≡ plain
        → stem_bytes (cond plain (byte ∷ []) (37 ∷ hex_digit (byte / 16) ∷ hex_digit (byte % 16) ∷ []) ++ text) ≡ byte ∷ stem_bytes text
    by true is = plain_byte byte text (no_escape byte is)
    by false is = escaped_byte byte text small

stem_bytes-stem : (name : List ℕ) → IsBytes name → stem_bytes (stem_of name) ≡ name
unfolding stem_bytes
stem_bytes-stem [] fits = refl
stem_bytes-stem (byte ∷ name) fits = stem_bytes-byte byte (stem_of name) (fits 0) ∙ ap (λ (bytes : List ℕ). byte ∷ bytes) (stem_bytes-stem name (λ i. fits (suc i)))

name_in-own : (name : List ℕ) → IsName name → name_in name ≡ Some name
name_in-own name is = grind (arith, nat_tests, common_steps, is.some, is.short, is.nonzero)

pub stem_in-only : (name : List ℕ) → IsBytes name → IsName name → stem_in (stem_of name) ≡ Some name
unfolding stem_in
stem_in-only name fits is = rw (stem_bytes-stem name fits, name_in-own name is, bytes_eq-own (stem_of name)) refl

-- ---- what is read is the name of the stem

name_in-found : (bytes name : List ℕ) → name_in bytes ≡ Some name → (bytes ≡ name) × IsName name
name_in-found bytes name e = grind (arith, nat_tests, common_steps)

-- a byte that stands for itself
plain_small : (byte : ℕ) → is_plain byte ≡ true → byte < 256
plain_small byte plain = grind (arith, nat_tests, common_steps)

escape_small : (high low : ℕ) → 16 * digit_number high + digit_number low < 256
escape_small high low = omega arith

-- the stem of a byte begins with the byte, or with `%`
stem_byte-first : (byte : ℕ) (more text : List ℕ) → stem_byte byte ++ more ≡ byte ∷ text → eqb byte 37 ≡ false → (byte < 256) × (more ≡ text)
unfolding stem_byte
stem_byte-first byte more text e other = by (is_plain byte) refl e
  where
    by : (plain : Bool) → is_plain byte ≡ plain → cond plain (byte ∷ []) (37 ∷ hex_digit (byte / 16) ∷ hex_digit (byte % 16) ∷ []) ++ more ≡ byte ∷ text
        → (byte < 256) × (more ≡ text)
    by true is e = (plain_small byte is, cc)
    by false is e = let same : 37 ≡ byte = cc in absurd (eqb-false byte 37 other (sym same))

-- the stem of a byte that is not `%` on its own
stem_byte-drop : (byte : ℕ) (high low : ℕ) (more text : List ℕ) → stem_byte byte ++ more ≡ 37 ∷ high ∷ low ∷ text → more ≡ text
unfolding stem_byte
stem_byte-drop byte high low more text e = by (is_plain byte) refl e
  where
    by : (plain : Bool) → is_plain byte ≡ plain → cond plain (byte ∷ []) (37 ∷ hex_digit (byte / 16) ∷ hex_digit (byte % 16) ∷ []) ++ more ≡ 37 ∷ high ∷ low ∷ text
        → more ≡ text
    by true is e = let same : byte ≡ 37 = cc in let bad : is_plain 37 ≡ true = ap is_plain (sym same) ∙ is in absurd cc
    by false is e = cc

bytes_more : (byte : ℕ) (bytes : List ℕ) → byte < 256 → IsBytes bytes → IsBytes (byte ∷ bytes)
bytes_more byte bytes small fits zero = small
bytes_more byte bytes small fits (suc i) = fits i

no_bytes : IsBytes []
no_bytes i = omega arith

-- the stem of `%` has two digits
escape_long : (byte next : ℕ) (more : List ℕ) → eqb byte 37 ≡ true → stem_byte byte ++ more ≡ byte ∷ next ∷ [] → ⊥
unfolding stem_byte
escape_long byte next more is e =
    let same : byte ≡ 37 = eqb-true byte 37 is in
    let bad : stem_byte 37 ++ more ≡ 37 ∷ next ∷ [] = subst (λ (b : ℕ). stem_byte b ++ more ≡ b ∷ next ∷ []) same e in
    cc

small_one : (byte : ℕ) → stem_byte byte ++ [] ≡ byte ∷ [] → IsBytes (byte ∷ [])
small_one byte e = by (eqb byte 37) refl
  where
    by : (escape : Bool) → eqb byte 37 ≡ escape → IsBytes (byte ∷ [])
    by true is = bytes_more byte [] (omega (arith, eqb-true byte 37 is)) no_bytes
    by false is = bytes_more byte [] (stem_byte-first byte [] [] e is).0 no_bytes

small_two : (byte next : ℕ) → stem_byte byte ++ (stem_byte next ++ []) ≡ byte ∷ next ∷ [] → IsBytes (byte ∷ next ∷ [])
small_two byte next e = by (eqb byte 37) refl
  where
    by : (escape : Bool) → eqb byte 37 ≡ escape → IsBytes (byte ∷ next ∷ [])
    by true is = absurd (escape_long byte next (stem_byte next ++ []) is e)
    by false is =
        let first = stem_byte-first byte (stem_byte next ++ []) (next ∷ []) e is in
        bytes_more byte (next ∷ []) first.0 (small_one next first.1)

small_more : (escape : Bool) (byte high low : ℕ) (text bytes others : List ℕ) → eqb byte 37 ≡ escape
    → (stem_of bytes ≡ text → IsBytes bytes) → (stem_of others ≡ high ∷ low ∷ text → IsBytes others)
    → stem_of (cond escape ((16 * digit_number high + digit_number low) ∷ bytes) (byte ∷ others)) ≡ byte ∷ high ∷ low ∷ text
    → IsBytes (cond escape ((16 * digit_number high + digit_number low) ∷ bytes) (byte ∷ others))
small_more true byte high low text bytes others is short long e =
    let value : ℕ = 16 * digit_number high + digit_number low in
    let here : stem_byte value ++ stem_of bytes ≡ 37 ∷ high ∷ low ∷ text =
    subst (λ (b : ℕ). stem_byte value ++ stem_of bytes ≡ b ∷ high ∷ low ∷ text) (eqb-true byte 37 is) e in
    bytes_more value bytes (escape_small high low) (short (stem_byte-drop value high low (stem_of bytes) text here))
small_more false byte high low text bytes others is short long e =
    let first = stem_byte-first byte (stem_of others) (high ∷ low ∷ text) e is in
    bytes_more byte others first.0 (long first.1)

stem_bytes-small : (text : List ℕ) → stem_of (stem_bytes text) ≡ text → IsBytes (stem_bytes text)
unfolding stem_bytes
stem_bytes-small [] e = no_bytes
stem_bytes-small (byte ∷ []) e = small_one byte e
stem_bytes-small (byte ∷ next ∷ []) e = small_two byte next e
stem_bytes-small (byte ∷ high ∷ low ∷ text) e =
    small_more (eqb byte 37) byte high low text (stem_bytes text) (stem_bytes (high ∷ low ∷ text)) refl (stem_bytes-small text)
    (stem_bytes-small (high ∷ low ∷ text)) e

pub stem_in-found : (text name : List ℕ) → stem_in text ≡ Some name → (text ≡ stem_of name) × IsBytes name × IsName name
unfolding stem_in
stem_in-found text name e =
    let got = bind_some (name_in (stem_bytes text)) _ name e in
    let is = name_in-found (stem_bytes text) got.0 got.1 in
    let same = test_some _ (Some got.0) name got.2 in
    let own : got.0 ≡ name = some_is got.0 name same.1 in
    let stem : stem_of name ≡ text = ap stem_of (sym own) ∙ bytes_eq-is _ _ same.0 in
    let read : stem_bytes text ≡ name = is.0 ∙ own in
    (sym stem, subst IsBytes read (stem_bytes-small text (ap stem_of read ∙ stem)), subst IsName own is.1)

-- ---- of an answer

pub name_in-of : (answer : Result (List ℕ) NameFault) (bytes : List ℕ) → IfOk answer (λ name. name ≡ bytes) → result_err answer ≡ name_fault bytes
    → result_ok answer ≡ name_in bytes
name_in-of (Ok name) bytes is fault = rw (sym fault) (ap (λ (n : List ℕ). Some n) is)
name_in-of (Err why) bytes is fault = rw (sym fault) refl

pub stem_bytes-end : (bytes rest : List ℕ) → rest ≡ [] → bytes ++ stem_bytes rest ≡ bytes
unfolding stem_bytes
stem_bytes-end bytes rest none = rw none (append-nil bytes)
