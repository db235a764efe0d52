-- Strings behind their lengths: one string and one rest to the bytes, and what is read of them.
use Rattle.std.proofs.Common.{◌≡◌, ◌∙◌, ℕ, ◌+◌, ◌^◌, ◌<◌, ◌≤◌, List, ◌++◌, length, get_or, take, drop, refl, sym, ap, arith}
use Rattle.std.specs.Int.{w64, from_be_bytes, to_be_bytes}
use Rattle.std.proofs.lemmas.List.{append_assoc, take-append-drop, take_at, drop_at, length-append, length-take, get_or-take, get_or_past}
use Rattle.std.proofs.lemmas.Bool.{cases_lt}
use Rattle.std.proofs.lemmas.Nat.{be_bytes_8}
use Rattle.byteorder.specs.Endian.{big_bytes, big_number}
use Rattle.byteorder.specs.Numbers.{big_from-take, big_number-reads_back}
use Rattle.device_state.specs.Strings.{string_text}

-- the first of some bytes are bytes
in_front : (n : ℕ) (bytes : List ℕ) → ((i : ℕ) → get_or bytes i 0 < 256) → (i : ℕ) → get_or (take n bytes) i 0 < 256
in_front n bytes fits i = grind (arith, cases_lt, get_or-take, get_or_past, length-take)

-- a string is eight bytes longer with its length
pub length-string_text : (string : List ℕ) → length (string_text string) ≡ length string + 8
unfolding string_text
length-string_text string = omega (arith, length-append (big_bytes 8 (length string)) string)

-- the number in the first eight bytes is the string's length
pub big_number-string_text : (string rest : List ℕ) → length string < 2 ^ 64 → big_number 8 (string_text string ++ rest) ≡ length string
unfolding string_text
big_number-string_text string rest short =
    ap (big_number 8) (append_assoc (big_bytes 8 (length string)) string rest) ∙ big_number-reads_back 8 (length string) (string ++ rest) short

-- the string stands behind them
pub drop-string_text : (string rest : List ℕ) → drop 8 (string_text string ++ rest) ≡ string ++ rest
unfolding string_text
drop-string_text string rest = refl

-- bytes that begin with a string begin with no other one
pub string_text-injective : (string other rest behind : List ℕ) → length string < 2 ^ 64 → length other < 2 ^ 64
    → string_text string ++ rest ≡ string_text other ++ behind → (string ≡ other) × (rest ≡ behind)
string_text-injective string other rest behind short short' same =
    let size : length string ≡ length other =
    sym (big_number-string_text string rest short) ∙ ap (big_number 8) same ∙ big_number-string_text other behind short' in
    let ends : string ++ rest ≡ other ++ behind = sym (drop-string_text string rest) ∙ ap (drop 8) same ∙ drop-string_text other behind in (
      sym (take_at string rest (length string) refl) ∙ ap (take (length string)) ends ∙ take_at other behind (length string) (sym size),
      sym (drop_at string rest (length string) refl) ∙ ap (drop (length string)) ends ∙ drop_at other behind (length string) (sym size),
    )

-- what the lengths of a string and of the bytes behind it are, of bytes that a slice can hold
pub lengths_of : (bytes string rest : List ℕ) → length bytes < 2 ^ 64 → bytes ≡ string_text string ++ rest
    → (big_number 8 bytes ≡ length string) × (length bytes ≡ 8 + length string + length rest)
lengths_of bytes string rest fits same =
    let whole : length bytes ≡ 8 + length string + length rest =
    omega (arith, ap length same, length-append (string_text string) rest, length-string_text string) in
    (ap (big_number 8) same ∙ big_number-string_text string rest (omega (arith, whole)), whole)

-- eight bytes, and a string of the length that they say
pub cut_string : (bytes string rest : List ℕ) → ((i : ℕ) → get_or bytes i 0 < 256) → 8 ≤ length bytes → drop 8 bytes ≡ string ++ rest
    → length string ≡ big_number 8 bytes → bytes ≡ string_text string ++ rest
unfolding string_text
cut_string bytes string rest fits long ends size =
    let head = take 8 bytes in
    let eight : length head ≡ 8 = omega (arith, length-take 8 bytes) in
    let number : length string ≡ from_be_bytes w64 head = size ∙ sym (big_from-take 0 8 8 bytes (omega arith)) ∙ omega arith in
    let written : to_be_bytes w64 (length string) ≡ head = be_bytes_8 head (length string) eight (in_front 8 bytes fits) number in
    sym (take-append-drop 8 bytes) ∙ ap (λ back. head ++ back) ends ∙ ap (λ front. front ++ (string ++ rest)) (sym written)
    ∙ sym (append_assoc (to_be_bytes w64 (length string)) string rest)
