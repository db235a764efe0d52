-- Bytes that are shown as characters are read again.
use Rattle.std.proofs.lemmas.Bool.{and_parts, cases_eq}
use Rattle.std.proofs.lemmas.Bool.Decides.{nat_tests}
use Rattle.std.proofs.lemmas.List.Concat.{flat_map-append}
use Rattle.std.proofs.lemmas.Str.{chars-encodes}
use Rattle.std.proofs.Math.Utf8.{encode, scalar, scalars}
use Rattle.std.proofs.Common.{arith, ◌≡◌, ◌<◌, ◌++◌, ◌∷◌, [], ◌∙◌, ◌==◌, ◌&&◌, ◌||◌, ◌-◌, inl, inr, not, ap, refl, sym, subst, IsUtf8, ℕ, zero, suc, Bool, true, false, List, get_or, length, map, Some}
use Rattle.std.specs.Prelude.{chars, encode_utf8_all, nat_lt}
use Rattle.std.specs.List.{onto_first}
use Rattle.std.specs.Option.{option_and_then}
use Rattle.palm_records.specs.Characters.{char_of}
use Rattle.palm_records.proofs.CharacterLaws.{every, every_at}
use Rattle.memo_texts.specs.ExportHeads.{label_char, label_char_text, label_chars}
use Rattle.memo_texts.proofs.HeadLaws.{is_plain, label_char-plain}
use Rattle.memo_texts.specs.Characters.{byte_below, byte_of, bytes_of, line_bytes}
use Rattle.memo_texts.specs.Lines.{lines_in, without_return}
use Rattle.memo_texts.specs.Readings.{ReadingValue, with_bytes, with_line}
use Rattle.memo_texts.proofs.ByteLaws.{byte_below-char_of, line_bytes-good}

-- ---- bytes that are read

-- bytes, none of them zero
unfoldable pub is_read : List ℕ → Bool
is_read [] = true
is_read (b ∷ bs) = (nat_lt 0 b && nat_lt b 256) && is_read bs

pub is_read-append : (xs ys : List ℕ) → is_read xs ≡ true → is_read ys ≡ true → is_read (xs ++ ys) ≡ true
unfolding is_read
is_read-append [] ys p q = q
is_read-append (x ∷ xs) ys p q =
    let parts = and_parts (nat_lt 0 x && nat_lt x 256) (is_read xs) p in
    rw parts.0 (is_read-append xs ys parts.1 q)

pub is_read-plain : (word : List ℕ) → is_plain word ≡ true → is_read word ≡ true
unfolding is_read is_plain
is_read-plain [] p = refl
is_read-plain (c ∷ cs) p =
    let parts = and_parts (nat_lt 31 c && nat_lt c 127) (is_plain cs) p in
    let first : nat_lt 0 c && nat_lt c 256 ≡ true = grind (arith, nat_tests, parts.0) in
    rw first (is_read-plain cs parts.1)

-- ---- a byte and its character

byte_of-step : (c b : ℕ) → (c == 0x2400) ≡ false → (c == 0x240A) ≡ false → byte_below 256 c ≡ Some b → byte_of c ≡ Some b
unfolding byte_of
byte_of-step c b p q r = rw (p, q) r

byte_of-picture : byte_of 0x240A ≡ Some 10
unfolding byte_of
byte_of-picture = refl

pictures_told : every (λ b. b == 0 || (not (char_of b == 0x2400) && not (char_of b == 0x240A))) 256 ≡ true
unfolding every char_of
pictures_told = refl

byte_of-char_of : (b : ℕ) → 0 < b → b < 256 → byte_of (char_of b) ≡ Some b
byte_of-char_of b some small =
    let told = every_at (λ k. k == 0 || (not (char_of k == 0x2400) && not (char_of k == 0x240A))) 256 b pictures_told small in
    let zero_not : (char_of b == 0x2400) ≡ false = grind (arith, nat_tests, told, some) in
    let feed_not : (char_of b == 0x240A) ≡ false = grind (arith, nat_tests, told, some) in
    byte_of-step (char_of b) b zero_not feed_not (byte_below-char_of 256 b (omega arith) small)

pub byte_of-label_char : (b : ℕ) → 0 < b → b < 256 → byte_of (label_char b) ≡ Some b
byte_of-label_char b some small =
    elim (cases_eq b 10) [
      | inl same ↦ subst (λ (k : ℕ). byte_of (label_char k) ≡ Some k) (sym same) byte_of-picture
      | inr other ↦ (let differs : (b == 10) ≡ false = grind (arith, nat_tests, other) in rw differs (byte_of-char_of b some small))
    ]

-- ---- characters inside lines

-- neither a line feed nor a carriage return
unfoldable pub is_inner : List ℕ → Bool
is_inner [] = true
is_inner (b ∷ bs) = (not (b == 10) && not (b == 13)) && is_inner bs

is_inner-append : (xs ys : List ℕ) → is_inner xs ≡ true → is_inner ys ≡ true → is_inner (xs ++ ys) ≡ true
unfolding is_inner
is_inner-append [] ys p q = q
is_inner-append (x ∷ xs) ys p q =
    let parts = and_parts (not (x == 10) && not (x == 13)) (is_inner xs) p in
    rw parts.0 (is_inner-append xs ys parts.1 q)

chars_inner : every (λ b. is_inner (label_char_text b)) 256 ≡ true
unfolding every is_inner char_of encode
chars_inner = refl

pub label_chars_inner : (bytes : List ℕ) → is_read bytes ≡ true → is_inner (label_chars bytes) ≡ true
unfolding is_read is_inner
label_chars_inner [] p = refl
label_chars_inner (b ∷ bs) p =
    let parts = and_parts (nat_lt 0 b && nat_lt b 256) (is_read bs) p in
    let small : b < 256 = grind (arith, nat_tests, parts.0) in
    is_inner-append (label_char_text b) (label_chars bs) (every_at (λ k. is_inner (label_char_text k)) 256 b chars_inner small) (label_chars_inner bs parts.1)

pub lines_in-inner : (front rest : List ℕ) → is_inner front ≡ true → lines_in (front ++ 10 ∷ rest) ≡ front ∷ lines_in rest
unfolding lines_in is_inner
lines_in-inner [] rest p = refl
lines_in-inner (b ∷ bs) rest p =
    let parts = and_parts (not (b == 10) && not (b == 13)) (is_inner bs) p in
    let first : (b == 10) ≡ false = grind (arith, nat_tests, parts.0) in
    rw first (ap (onto_first b) (lines_in-inner bs rest parts.1))

inner_at : (line : List ℕ) (i : ℕ) → is_inner line ≡ true → (get_or line i 0 == 13) ≡ false
unfolding is_inner
inner_at [] i p = refl
inner_at (b ∷ bs) zero p =
    let parts = and_parts (not (b == 10) && not (b == 13)) (is_inner bs) p in
    grind (arith, nat_tests, parts.0)
inner_at (b ∷ bs) (suc i) p = inner_at bs i (and_parts (not (b == 10) && not (b == 13)) (is_inner bs) p).1

without_return-inner : (line : List ℕ) → is_inner line ≡ true → without_return line ≡ line
without_return-inner line p = rw (inner_at line (length line - 1) p) refl

-- ---- the characters of a line

scalars_told : every (λ b. scalar (label_char b)) 256 ≡ true
unfolding every char_of
scalars_told = refl

scalars_of : (bytes : List ℕ) → is_read bytes ≡ true → scalars (map label_char bytes) ≡ true
unfolding is_read
scalars_of [] p = refl
scalars_of (b ∷ bs) p =
    let parts = and_parts (nat_lt 0 b && nat_lt b 256) (is_read bs) p in
    let small : b < 256 = grind (arith, nat_tests, parts.0) in
    rw (every_at (λ k. scalar (label_char k)) 256 b scalars_told small) (scalars_of bs parts.1)

label_chars-encodes : (bytes : List ℕ) → label_chars bytes ≡ encode_utf8_all (map label_char bytes)
label_chars-encodes [] = refl
label_chars-encodes (b ∷ bs) = ap (λ l. label_char_text b ++ l) (label_chars-encodes bs)

bytes_of-label_char : (bytes : List ℕ) → is_read bytes ≡ true → bytes_of (map label_char bytes) ≡ Some bytes
unfolding is_read bytes_of
bytes_of-label_char [] p = refl
bytes_of-label_char (b ∷ bs) p =
    let parts = and_parts (nat_lt 0 b && nat_lt b 256) (is_read bs) p in
    let some : 0 < b = grind (arith, nat_tests, parts.0) in
    let small : b < 256 = grind (arith, nat_tests, parts.0) in
    rw (byte_of-label_char b some small, bytes_of-label_char bs parts.1) refl

line_bytes-label_chars : (bytes : List ℕ) → is_read bytes ≡ true → line_bytes (label_chars bytes) ≡ Some bytes
line_bytes-label_chars bytes p =
    let cs = map label_char bytes in
    let good = scalars_of bytes p in
    let text = label_chars-encodes bytes in
    let utf8 : IsUtf8 (label_chars bytes) = (cs, (good, sym text)) in
    line_bytes-good (label_chars bytes) utf8 ∙ (ap bytes_of (ap chars text ∙ chars-encodes cs good) ∙ bytes_of-label_char bytes p)

-- a line that shows bytes is read as these
pub with_line-label_chars : (reading : ReadingValue) (bytes : List ℕ) → is_read bytes ≡ true → with_line reading (label_chars bytes) ≡ with_bytes reading bytes
unfolding with_line
with_line-label_chars reading bytes p =
    ap (λ l. option_and_then (with_bytes reading) (line_bytes l)) (without_return-inner (label_chars bytes) (label_chars_inner bytes p))
    ∙ ap (option_and_then (with_bytes reading)) (line_bytes-label_chars bytes p)

-- ---- words

pub label_chars-plain : (word : List ℕ) → is_plain word ≡ true → label_chars word ≡ word
unfolding is_plain
label_chars-plain [] p = refl
label_chars-plain (c ∷ cs) p =
    let parts = and_parts (nat_lt 31 c && nat_lt c 127) (is_plain cs) p in
    let low : 31 < c = grind (arith, nat_tests, parts.0) in
    let high : c < 127 = grind (arith, nat_tests, parts.0) in
    rw (label_char-plain c low high) (ap (λ l. c ∷ l) (label_chars-plain cs parts.1))

pub label_chars-append : (xs ys : List ℕ) → label_chars (xs ++ ys) ≡ label_chars xs ++ label_chars ys
label_chars-append xs ys = flat_map-append label_char_text xs ys
