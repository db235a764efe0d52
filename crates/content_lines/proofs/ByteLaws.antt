-- Bytes, and the characters that they stand for.
use Rattle.std.proofs.lemmas.Bool.{and_parts}
use Rattle.std.proofs.lemmas.Bool.Decides.{nat_tests}
use Rattle.std.proofs.lemmas.Str.{chars-IsAscii, chars-append, chars-encodes, encode_ascii}
use Rattle.std.proofs.Common.{arith, ◌≡◌, ◌<◌, ◌++◌, ◌∷◌, [], ◌∙◌, ◌+◌, ◌&&◌, add-one, append_assoc, ap, drop, drop-cons, get_or, length, refl, take, ℕ, zero, suc, true, List, Option, None, Some}
use Rattle.std.specs.Prelude.{chars, encode_utf8, encode_utf8_all, IsUtf8, nat_lt}
use Rattle.std.specs.Str.{IsAscii, all_scalars}
use Rattle.hex.specs.Hex.{encode_lower, encode_with}
use Rattle.pdb_values.specs.Stems.{stem_byte, stem_of}
use Rattle.palm_records.specs.Characters.{char_of, characters}
use Rattle.palm_records.specs.Strings.{back, front}
use Rattle.palm_records.proofs.CharacterLaws.{char_of_injective, every, every_at}
use Rattle.content_lines.specs.Lines.{escaped, escaped_char}
use Rattle.content_lines.specs.Properties.{IsBytes, digit, is_name, is_plain}

-- ---- bytes of bytes

pub IsBytes-nil : IsBytes []
IsBytes-nil i = omega arith

pub IsBytes-rest : (byte : ℕ) (bytes : List ℕ) → IsBytes (byte ∷ bytes) → IsBytes bytes
IsBytes-rest byte bytes h i = h (suc i)

pub IsBytes-cons : (byte : ℕ) (rest : List ℕ) → byte < 256 → IsBytes rest → IsBytes (byte ∷ rest)
IsBytes-cons byte rest small h zero = small
IsBytes-cons byte rest small h (suc i) = h i

pub IsBytes-append : (a b : List ℕ) → IsBytes a → IsBytes b → IsBytes (a ++ b)
IsBytes-append [] b h k = k
IsBytes-append (x ∷ xs) b h k = IsBytes-cons x (xs ++ b) (h 0) (IsBytes-append xs b (IsBytes-rest x xs h) k)

pub IsBytes-take : (n : ℕ) (bytes : List ℕ) → IsBytes bytes → IsBytes (take n bytes)
IsBytes-take zero bytes h = IsBytes-nil
IsBytes-take (suc n) [] h = IsBytes-nil
IsBytes-take (suc n) (x ∷ xs) h = IsBytes-cons x (take n xs) (h 0) (IsBytes-take n xs (IsBytes-rest x xs h))

pub IsBytes-drop : (n : ℕ) (bytes : List ℕ) → IsBytes bytes → IsBytes (drop n bytes)
IsBytes-drop zero bytes h = h
IsBytes-drop (suc n) [] h = IsBytes-nil
IsBytes-drop (suc n) (x ∷ xs) h = IsBytes-drop n xs (IsBytes-rest x xs h)

pub IsBytes-front : (place : Option ℕ) (bytes : List ℕ) → IsBytes bytes → IsBytes (front place bytes)
IsBytes-front None bytes h = h
IsBytes-front (Some place) bytes h = IsBytes-take place bytes h

pub IsBytes-back : (place : Option ℕ) (bytes : List ℕ) → IsBytes bytes → IsBytes (back place bytes)
IsBytes-back None bytes h = IsBytes-nil
IsBytes-back (Some place) bytes h = IsBytes-drop (suc place) bytes h

-- ---- plain characters

pub is_plain-append : (a b : List ℕ) → is_plain a ≡ true → is_plain b ≡ true → is_plain (a ++ b) ≡ true
is_plain-append [] b e f = f
is_plain-append (c ∷ cs) b e f = grind (arith, is_plain-append cs b, e, f)

pub plain-ascii : (text : List ℕ) → is_plain text ≡ true → IsAscii text
plain-ascii [] e i = omega arith
plain-ascii (c ∷ cs) e zero = let parts = and_parts (nat_lt 31 c && nat_lt c 127) (is_plain cs) e in grind (arith, nat_tests, parts.0)
plain-ascii (c ∷ cs) e (suc i) = plain-ascii cs (and_parts (nat_lt 31 c && nat_lt c 127) (is_plain cs) e).1 i

pub IsBytes-plain : (text : List ℕ) → is_plain text ≡ true → IsBytes text
IsBytes-plain text e i = let few = plain-ascii text e i in omega (arith, few)

-- they are their own bytes
pub chars-plain : (text : List ℕ) → is_plain text ≡ true → chars text ≡ text
chars-plain text e = chars-IsAscii text (plain-ascii text e)

pub plain-name : (name : List ℕ) → is_name name ≡ true → is_plain name ≡ true
plain-name [] e = refl
plain-name (c ∷ cs) e = grind (arith, nat_tests, plain-name cs, e)

pub is_name-append : (a b : List ℕ) → is_name a ≡ true → is_name b ≡ true → is_name (a ++ b) ≡ true
is_name-append [] b e f = f
is_name-append (c ∷ cs) b e f = grind (arith, is_name-append cs b, e, f)

pub plain-digit : (n : ℕ) → is_plain (digit n ∷ []) ≡ true
plain-digit n = grind (arith, nat_tests)

digits_are_plain : every (λ b. is_plain (encode_lower (b ∷ []))) 256 ≡ true
unfolding every encode_with
digits_are_plain = refl

pub plain-encode_lower : (bytes : List ℕ) → IsBytes bytes → is_plain (encode_lower bytes) ≡ true
unfolding encode_with
plain-encode_lower [] h = refl
plain-encode_lower (b ∷ bs) h =
    grind (arith, nat_tests, plain-encode_lower bs (λ i. h (suc i)), every_at (λ x. is_plain (encode_lower (x ∷ []))) 256 b digits_are_plain (h 0))

stems_are_plain : every (λ b. is_plain (stem_byte b)) 256 ≡ true
unfolding every stem_byte
stems_are_plain = refl

pub plain-stem_of : (name : List ℕ) → IsBytes name → is_plain (stem_of name) ≡ true
plain-stem_of [] h = refl
plain-stem_of (b ∷ bs) h =
    is_plain-append (stem_byte b) (stem_of bs) (every_at (λ x. is_plain (stem_byte x)) 256 b stems_are_plain (h 0)) (plain-stem_of bs (λ i. h (suc i)))

-- ---- characters of bytes

pub characters_injective : (v w : List ℕ) → IsBytes v → IsBytes w → characters v ≡ characters w → v ≡ w
characters_injective [] [] h k e = refl
characters_injective [] (y ∷ ys) h k e = cc
characters_injective (x ∷ xs) [] h k e = cc
characters_injective (x ∷ xs) (y ∷ ys) h k e =
    let first : char_of x ≡ char_of y = ap (λ l. get_or l 0 0) e in
    let head = char_of_injective x y (h 0) (k 0) first in
    let rest = characters_injective xs ys (IsBytes-rest x xs h) (IsBytes-rest y ys k) (cc) in
    λ i. head i ∷ rest i

-- ---- a text that grows

pub chars-grown : (old new text : List ℕ) → IsUtf8 old → is_plain text ≡ true → new ≡ old ++ text → chars new ≡ chars old ++ text
chars-grown old new text utf8 plain grown = ap chars grown ∙ (chars-append old text utf8 ∙ ap (λ l. chars old ++ l) (chars-plain text plain))

pub chars-digit : (old new : List ℕ) (ch n : ℕ) → IsUtf8 old → ch ≡ digit n → new ≡ old ++ encode_utf8 ch → chars new ≡ chars old ++ digit n ∷ []
chars-digit old new ch n utf8 is grown =
    chars-grown old new (digit n ∷ []) utf8 (plain-digit n)
    (grown ∙ ap (λ l. old ++ l) (ap encode_utf8 is ∙ encode_ascii (digit n) (omega arith)))

all_are_scalars : every (λ b. all_scalars (escaped_char (char_of b))) 256 ≡ true
unfolding every char_of
all_are_scalars = refl

-- by the character of a byte
pub chars-escaped : (text new : List ℕ) (ch byte : ℕ) → IsUtf8 text → byte < 256 → ch ≡ char_of byte → new ≡ text ++ encode_utf8_all (escaped_char ch)
    → chars new ≡ chars text ++ escaped_char (char_of byte)
chars-escaped text new ch byte utf8 small is grown =
    ap chars (grown ∙ ap (λ c. text ++ encode_utf8_all (escaped_char c)) is)
    ∙ (chars-append text (encode_utf8_all (escaped_char (char_of byte))) utf8
    ∙ ap (λ l. chars text ++ l)
    (chars-encodes (escaped_char (char_of byte)) (every_at (λ b. all_scalars (escaped_char (char_of b))) 256 byte all_are_scalars small)))

pub escaped-drop : (text new bytes : List ℕ) (at : ℕ) → at < length bytes → new ≡ text ++ escaped_char (char_of (get_or bytes at 0))
    → new ++ escaped (characters (drop (at + 1) bytes)) ≡ text ++ escaped (characters (drop at bytes))
unfolding escaped
escaped-drop text new bytes at inside grown =
    rw (grown, add-one, drop-cons bytes at 0 inside)
    (append_assoc text (escaped_char (char_of (get_or bytes at 0))) (escaped (characters (drop (suc at) bytes))))
