-- Bytes as text: one to one, and printable.
use Rattle.std.proofs.Common.{◌≡◌, ℕ, ◌+◌, ◌*◌, ◌/◌, ◌%◌, ◌-◌, ◌<◌, ◌==◌, Bool, true, false, cond, List, [], ◌∷◌, ◌++◌, refl, sym, ap, ◌∙◌, arith}
use Rattle.std.specs.Prelude.{nat_lt}
use Rattle.std.specs.List.{AllByRecursion}
use Rattle.std.proofs.lemmas.Bool.Decides.{nat_tests}
use Rattle.file_text.specs.Escapes.{escaped, escaped_byte, hex_escape, is_printable, lower_digit}

pub escaped-more : (byte : ℕ) (bytes : List ℕ) → escaped (byte ∷ bytes) ≡ escaped_byte byte ++ escaped bytes
unfolding escaped
escaped-more byte bytes = refl

pub escaped-nil : escaped [] ≡ []
unfolding escaped
escaped-nil = refl

-- ---- a text is read back

-- what stands for a byte, by what that byte is
abbrev written : (a b c d e p : Bool) → ℕ → List ℕ
written a b c d e p byte =
    cond a (92 ∷ 92 ∷ []) (cond b (92 ∷ 110 ∷ []) (cond c (92 ∷ 114 ∷ []) (cond d (92 ∷ 116 ∷ []) (cond e (92 ∷ 48 ∷ []) (cond p (byte ∷ []) (hex_escape byte))))))

-- the number of a digit
abbrev digit_value : ℕ → ℕ
digit_value digit = cond (nat_lt digit 58) (digit - 48) (digit - 87)

-- the byte of two digits, and what follows them
abbrev read_digits : List ℕ → ℕ × List ℕ
read_digits (high ∷ low ∷ rest) = (digit_value high * 16 + digit_value low, rest)
read_digits rest = (0, rest)

-- the byte behind a backslash, and what follows it
abbrev read_letter : List ℕ → ℕ × List ℕ
read_letter [] = (0, [])
read_letter (letter ∷ rest) =
    cond (letter == 92) (92, rest) (cond (letter == 110) (10, rest) (cond (letter == 114) (13, rest) (cond (letter == 116) (9, rest)
    (cond (letter == 48) (0, rest) (read_digits rest)))))

-- the first byte that a text stands for, and what follows it
abbrev read_byte : List ℕ → ℕ × List ℕ
read_byte [] = (0, [])
read_byte (first ∷ rest) = cond (first == 92) (read_letter rest) (first, rest)

digit_value-lower_digit : (n : ℕ) → n < 16 → digit_value (lower_digit n) ≡ n
digit_value-lower_digit n e = grind (arith, nat_tests, e)

same_number : (m n : ℕ) → (m == n) ≡ true → m ≡ n
same_number m n e = grind (arith, nat_tests)

read_byte-digits : (x : ℕ) (s : List ℕ) → x < 256 → read_byte (hex_escape x ++ s) ≡ (x, s)
read_byte-digits x s small =
    let high = digit_value-lower_digit (x / 16) (omega arith) in
    let low = digit_value-lower_digit (x % 16) (omega arith) in
    let whole : x / 16 * 16 + x % 16 ≡ x = omega arith in
    ap (λ h. (h * 16 + digit_value (lower_digit (x % 16)), s)) high ∙ ap (λ l. (x / 16 * 16 + l, s)) low ∙ ap (λ b. (b, s)) whole

read_byte-written : (a b c d e p : Bool) (x : ℕ) (s : List ℕ) → (x == 92) ≡ a → (x == 10) ≡ b → (x == 13) ≡ c → (x == 9) ≡ d → (x == 0) ≡ e
    → x < 256 → read_byte (written a b c d e p x ++ s) ≡ (x, s)
read_byte-written true b c d e p x s is1 is2 is3 is4 is5 small = ap (λ y. (y, s)) (sym (same_number x 92 is1))
read_byte-written false true c d e p x s is1 is2 is3 is4 is5 small = ap (λ y. (y, s)) (sym (same_number x 10 is2))
read_byte-written false false true d e p x s is1 is2 is3 is4 is5 small = ap (λ y. (y, s)) (sym (same_number x 13 is3))
read_byte-written false false false true e p x s is1 is2 is3 is4 is5 small = ap (λ y. (y, s)) (sym (same_number x 9 is4))
read_byte-written false false false false true p x s is1 is2 is3 is4 is5 small = ap (λ y. (y, s)) (sym (same_number x 0 is5))
read_byte-written false false false false false true x s is1 is2 is3 is4 is5 small = rw is1 refl
read_byte-written false false false false false false x s is1 is2 is3 is4 is5 small = read_byte-digits x s small

read_byte-escaped_byte : (x : ℕ) (s : List ℕ) → x < 256 → read_byte (escaped_byte x ++ s) ≡ (x, s)
read_byte-escaped_byte x s small =
    read_byte-written (x == 92) (x == 10) (x == 13) (x == 9) (x == 0) (is_printable x) x s refl refl refl refl refl small

same_front : (x y : ℕ) (s t : List ℕ) → x < 256 → y < 256 → escaped_byte x ++ s ≡ escaped_byte y ++ t → (x ≡ y) × (s ≡ t)
same_front x y s t small small_too e =
    let read : (x, s) ≡ (y, t) = sym (read_byte-escaped_byte x s small) ∙ (ap read_byte e ∙ read_byte-escaped_byte y t small_too) in
    (ap (λ p. p.0) read, ap (λ p. p.1) read)

not_nothing : (a b c d e p : Bool) (x : ℕ) (s : List ℕ) → written a b c d e p x ++ s ≡ [] → ⊥
not_nothing a b c d e p x s is = grind arith

something : (x : ℕ) (s : List ℕ) → escaped_byte x ++ s ≡ [] → ⊥
something x s is = not_nothing (x == 92) (x == 10) (x == 13) (x == 9) (x == 0) (is_printable x) x s is

pub escaped-injective : (bytes other : List ℕ) → AllByRecursion (λ byte. byte < 256) bytes → AllByRecursion (λ byte. byte < 256) other
    → escaped bytes ≡ escaped other → bytes ≡ other
escaped-injective [] [] h k e = refl
escaped-injective [] (y ∷ ys) h k e = absurd (something y (escaped ys) (sym (escaped-more y ys) ∙ sym e ∙ escaped-nil))
escaped-injective (x ∷ xs) [] h k e = absurd (something x (escaped xs) (sym (escaped-more x xs) ∙ e ∙ escaped-nil))
escaped-injective (x ∷ xs) (y ∷ ys) h k e =
    let parts = same_front x y (escaped xs) (escaped ys) h.0 k.0 (sym (escaped-more x xs) ∙ e ∙ escaped-more y ys) in
    let rest = escaped-injective xs ys h.1 k.1 parts.1 in
    ap (λ b. b ∷ xs) parts.0 ∙ ap (λ more. y ∷ more) rest

-- ---- printable

ArePrintable : List ℕ → Type 0
ArePrintable text = AllByRecursion (λ byte. is_printable byte ≡ true) text

lower_digit-printable : (n : ℕ) → n < 16 → is_printable (lower_digit n) ≡ true
lower_digit-printable n e = grind (arith, nat_tests, e)

written-printable : (a b c d e p : Bool) (x : ℕ) (s : List ℕ) → is_printable x ≡ p → x < 256 → ArePrintable s → ArePrintable (written a b c d e p x ++ s)
unfolding ArePrintable
written-printable true b c d e p x s is small h = (refl, (refl, h))
written-printable false true c d e p x s is small h = (refl, (refl, h))
written-printable false false true d e p x s is small h = (refl, (refl, h))
written-printable false false false true e p x s is small h = (refl, (refl, h))
written-printable false false false false true p x s is small h = (refl, (refl, h))
written-printable false false false false false true x s is small h = (is, h)
written-printable false false false false false false x s is small h =
    (refl, (refl, (lower_digit-printable (x / 16) (omega arith), (lower_digit-printable (x % 16) (omega arith), h))))

pub escaped-printable : (bytes : List ℕ) → AllByRecursion (λ byte. byte < 256) bytes
    → AllByRecursion (λ byte. is_printable byte ≡ true) (escaped bytes)
unfolding ArePrintable
escaped-printable [] h = rw escaped-nil tt
escaped-printable (x ∷ xs) h =
    rw (escaped-more x xs)
    (written-printable (x == 92) (x == 10) (x == 13) (x == 9) (x == 0) (is_printable x) x (escaped xs) refl h.0 (escaped-printable xs h.1))
