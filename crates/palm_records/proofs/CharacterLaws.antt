-- No two bytes have one character: each character tells its byte, which is tried byte by byte.
use Rattle.std.proofs.lemmas.Bool.{and_parts, cases_eq}
use Rattle.std.proofs.lemmas.Bool.Decides.{nat_tests}
use Rattle.std.proofs.Common.{arith, inl, inr, ◌≡◌, ◌<◌, ◌++◌, ◌==◌, append_assoc, add-one, drop, drop-cons, get_or, length, take, ◌&&◌, ◌||◌, ℕ, ◌+◌, ◌-◌, ◌*◌, zero, suc, Bool, true, List, [], ◌∷◌, refl, sym, ap, ◌∙◌}
use Rattle.std.proofs.Math.Seq.{drop-append_seam, take-append_seam}
use Rattle.std.proofs.Math.Utf8.{encode}
use Rattle.std.specs.Prelude.{encode_utf8, encode_utf8_all, nat_lt, if◌then◌else◌}
use Rattle.palm_records.specs.Characters.{char_of, char_text, characters, specials}

-- ---- trying each byte

-- the test passes at each number below this one
unfoldable pub every : (ℕ → Bool) → ℕ → Bool
every test zero = true
every test (suc n) = test n && every test n

pub every_at : (test : ℕ → Bool) (n k : ℕ) → every test n ≡ true → k < n → test k ≡ true
unfolding every
every_at test zero k all below =
    let no : ⊥ = omega (arith, below) in
    absurd no
every_at test (suc n) k all below =
    let parts = and_parts (test n) (every test n) all in
    elim (cases_eq k n) [ inl same ↦ ap test same ∙ parts.0 | inr other ↦ every_at test n k parts.1 (omega (arith, other)) ]

-- ---- the byte of a character

unfoldable pub place_in : ℕ → ℕ → List ℕ → ℕ
place_in c at [] = 0
place_in c at (d ∷ ds) = if c == d then at else place_in c (at + 1) ds

unfoldable pub byte_of : ℕ → ℕ
byte_of c =
    if c == 0x2421 then 0x7F else if nat_lt 0x23FF c && nat_lt c 0x2420 then c - 0x2400 else if nat_lt c 0x80 || (nat_lt 0x9F c && nat_lt c 0x100) then c
    else place_in c 0x80 specials

all_told : every (λ b. byte_of (char_of b) == b) 256 ≡ true
unfolding every byte_of char_of place_in
all_told = refl

byte_of-char_of : (b : ℕ) → b < 256 → byte_of (char_of b) ≡ b
byte_of-char_of b below = grind (arith, nat_tests, every_at (λ b. byte_of (char_of b) == b) 256 b all_told below)

pub char_of_injective : (a b : ℕ) → a < 256 → b < 256 → char_of a ≡ char_of b → a ≡ b
char_of_injective a b small_a small_b same = sym (byte_of-char_of a small_a) ∙ (ap byte_of same ∙ byte_of-char_of b small_b)

char_of-10 : char_of 10 ≡ 10
unfolding char_of
char_of-10 = refl

char_of-13 : char_of 13 ≡ 0x240D
unfolding char_of
char_of-13 = refl

byte_of-13 : byte_of 13 ≡ 13
unfolding byte_of place_in
byte_of-13 = refl

-- a line feed stands for itself alone
pub char_of-feed : (byte : ℕ) → byte < 256 → char_of byte ≡ 10 → byte ≡ 10
char_of-feed byte small is = char_of_injective byte 10 small (omega arith) (is ∙ sym char_of-10)

-- a carriage return is no byte's character: its byte would be 13, which has another one
pub char_of-return : (byte : ℕ) → byte < 256 → char_of byte ≡ 13 → ⊥
char_of-return byte small is =
    let thirteen : byte ≡ 13 = sym (byte_of-char_of byte small) ∙ (ap byte_of is ∙ byte_of-13) in
    let other : 0x240D ≡ 13 = sym (ap char_of thirteen ∙ char_of-13) ∙ is in
    omega (arith, other)

-- ---- bytes as texts that are told apart by their front

-- the length of a character's text, by its first byte, and the character
abbrev pub size_of : ℕ → ℕ
size_of first = if nat_lt first 0x80 then 1 else if nat_lt first 0xE0 then 2 else 3

unfoldable pub code_of : List ℕ → ℕ
code_of [] = 0
code_of (a ∷ []) = byte_of a
code_of (a ∷ b ∷ []) = byte_of ((a - 0xC0) * 64 + (b - 0x80))
code_of (a ∷ b ∷ c ∷ rest) = byte_of ((a - 0xE0) * 4096 + ((b - 0x80) * 64 + (c - 0x80)))

-- the text of a byte tells its length by its first byte, and the byte
unfoldable pub is_told : (ℕ → List ℕ) → ℕ → Bool
is_told text byte = (code_of (text byte) == byte) && ((length (text byte) == size_of (get_or (text byte) 0 0)) && nat_lt 0 (length (text byte)))

-- parts of one length of one list
pub append_parts : (xs ys s t : List ℕ) → length xs ≡ length ys → xs ++ s ≡ ys ++ t → (xs ≡ ys) × (s ≡ t)
append_parts xs ys s t same e = (
  sym (take-append_seam xs s) ∙ (ap (take (length xs)) e ∙ (ap (λ n. take n (ys ++ t)) same ∙ take-append_seam ys t)),
  sym (drop-append_seam xs s) ∙ (ap (drop (length xs)) e ∙ (ap (λ n. drop n (ys ++ t)) same ∙ drop-append_seam ys t)),
)

pub first-append : (xs s : List ℕ) → 0 < length xs → get_or (xs ++ s) 0 0 ≡ get_or xs 0 0
first-append [] s some = omega arith
first-append (x ∷ xs) s some = refl

pub text_front : (text : ℕ → List ℕ) (a b : ℕ) (s t : List ℕ) → every (is_told text) 256 ≡ true → a < 256 → b < 256 → text a ++ s ≡ text b ++ t → (a ≡ b) × (s ≡ t)
unfolding is_told
text_front text a b s t told small_a small_b e =
    let of_a = every_at (is_told text) 256 a told small_a in
    let of_b = every_at (is_told text) 256 b told small_b in
    let some_a : 0 < length (text a) = grind (arith, nat_tests, of_a) in
    let some_b : 0 < length (text b) = grind (arith, nat_tests, of_b) in
    let first = sym (first-append (text a) s some_a) ∙ (ap (λ l. get_or l 0 0) e ∙ first-append (text b) t some_b) in
    let size_a : length (text a) ≡ size_of (get_or (text a) 0 0) = grind (arith, nat_tests, of_a) in
    let size_b : length (text b) ≡ size_of (get_or (text b) 0 0) = grind (arith, nat_tests, of_b) in
    let same : length (text a) ≡ length (text b) = size_a ∙ (ap size_of first ∙ sym size_b) in
    let parts = append_parts (text a) (text b) s t same e in
    let code_a : code_of (text a) ≡ a = grind (arith, nat_tests, of_a) in
    let code_b : code_of (text b) ≡ b = grind (arith, nat_tests, of_b) in
    (sym code_a ∙ (ap code_of parts.0 ∙ code_b), parts.1)

chars_told : every (is_told char_text) 256 ≡ true
unfolding every is_told code_of byte_of char_of place_in encode
chars_told = refl

-- two bytes' characters in front of one text are the same
pub char_text_front : (a b : ℕ) (s t : List ℕ) → a < 256 → b < 256 → char_text a ++ s ≡ char_text b ++ t → (a ≡ b) × (s ≡ t)
char_text_front a b s t small_a small_b e = text_front char_text a b s t chars_told small_a small_b e

-- no byte's character is empty
pub char_text_some : (byte : ℕ) → byte < 256 → 0 < length (char_text byte)
unfolding is_told
char_text_some byte small = grind (arith, nat_tests, every_at (is_told char_text) 256 byte chars_told small)

-- ---- a text that grows by a character

pub encode_utf8_all-drop : (text new bytes : List ℕ) (at : ℕ) → at < length bytes → new ≡ text ++ encode_utf8 (char_of (get_or bytes at 0))
    → new ++ encode_utf8_all (characters (drop (at + 1) bytes)) ≡ text ++ encode_utf8_all (characters (drop at bytes))
encode_utf8_all-drop text new bytes at inside grown =
    rw (grown, add-one, drop-cons bytes at 0 inside)
    (append_assoc text (encode_utf8 (char_of (get_or bytes at 0))) (encode_utf8_all (characters (drop (suc at) bytes))))
