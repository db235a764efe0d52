-- Which bytes don't stand in the words of a line, and what that says of where a text parts.
use Rattle.std.proofs.Common.{◌≡◌, ℕ, suc, ◌/◌, ◌%◌, ◌^◌, ◌<◌, ◌≤◌, Bool, true, false, ◌&&◌, ◌||◌, eqb, leb, List, [], ◌∷◌, ◌++◌, Some, refl, arith}
use Rattle.std.specs.Prelude.{codes}
use Rattle.std.specs.List.{AllByRecursion}
use Rattle.std.specs.Fmt.{decimal}
use Rattle.std.specs.Char.{digit_value}
use Rattle.std.specs.Str.Parse.{AllDigits}
use Rattle.std.proofs.lemmas.Bool.{and_parts, ne_eqb, eqb-true, leb-true}
use Rattle.std.proofs.lemmas.Fmt.{decimal_is_IsNumeral}
use Rattle.hex.specs.Hex.{IsBytes, encode_lower, encode_with, hex_digit_value}
use Rattle.hex.proofs.HexLemmas.{IsDigits-lower_digits}
use Rattle.trace_text.specs.Fates.{FateValue, Untouched, Lost, Late, Cut, Hit, Noise, Unplug, Abort, fate_words}
use Rattle.trace_check.specs.Words.{is_feed, is_mark}
use Rattle.trace_check.specs.Readings.{MayBefall}

-- no byte of these passes
abbrev pub Without : (ℕ → Bool) → List ℕ → Type 0
Without p bytes = AllByRecursion (λ byte. p byte ≡ false) bytes

pub without-append : (p : ℕ → Bool) (xs ys : List ℕ) → Without p xs → Without p ys → Without p (xs ++ ys)
without-append p [] ys a b = b
without-append p (x ∷ xs) ys a b = (a.0, without-append p xs ys a.1 b)

pub without-parts : (p : ℕ → Bool) (xs ys : List ℕ) → Without p (xs ++ ys) → Without p xs × Without p ys
without-parts p [] ys all = (tt, all)
without-parts p (x ∷ xs) ys all = let rest = without-parts p xs ys all.1 in ((all.0, rest.0), rest.1)

-- a text parts in one way at the first byte that passes
pub parts-once : (p : ℕ → Bool) (xs ys : List ℕ) (m n : ℕ) (a b : List ℕ) → Without p xs → Without p ys → p m ≡ true → p n ≡ true
    → xs ++ m ∷ a ≡ ys ++ n ∷ b → (xs ≡ ys) × (m ≡ n) × (a ≡ b)
parts-once p [] [] m n a b wx wy pm pn is = (refl, cc, cc)
parts-once p [] (y ∷ ys) m n a b wx wy pm pn is = let same : m ≡ y = cc in absurd (cc (same, pm, wy.0))
parts-once p (x ∷ xs) [] m n a b wx wy pm pn is = let same : x ≡ n = cc in absurd (cc (same, pn, wx.0))
parts-once p (x ∷ xs) (y ∷ ys) m n a b wx wy pm pn is =
    let head : x ≡ y = cc in
    let tail : xs ++ m ∷ a ≡ ys ++ n ∷ b = cc in
    let rest = parts-once p xs ys m n a b wx.1 wy.1 pm pn tail in
    (cc (head, rest.0), rest.1, rest.2)

-- ---- the bytes of words: spaces, and what stands from the digits on

pub record Spares (p : ℕ → Bool) : Type 0 where
  pub space : p 32 ≡ false
  pub above : (byte : ℕ) → 48 ≤ byte → p byte ≡ false

pub feed-spares : Spares is_feed
feed-spares = record { space = refl; above = λ byte high. ne_eqb byte 10 (λ e. omega arith) }

mark_none : (byte : ℕ) → 48 ≤ byte → is_mark byte ≡ false
mark_none byte high =
    let plus : eqb byte 43 ≡ false = ne_eqb byte 43 (λ e. omega arith) in
    let minus : eqb byte 45 ≡ false = ne_eqb byte 45 (λ e. omega arith) in
    rw (plus, minus) refl

pub mark-spares : Spares is_mark
mark-spares = record { space = refl; above = mark_none }

abbrev all_plain : List ℕ → Bool
all_plain [] = true
all_plain (byte ∷ bytes) = (eqb byte 32 || leb 48 byte) && all_plain bytes

plain_byte : (p : ℕ → Bool) → Spares p → (byte : ℕ) → (b c : Bool) → eqb byte 32 ≡ b → leb 48 byte ≡ c → (b || c) ≡ true → p byte ≡ false
plain_byte p spares byte true c is high passes = rw (eqb-true byte 32 is) spares.space
plain_byte p spares byte false true is high passes = spares.above byte (leb-true 48 byte high)
plain_byte p spares byte false false is high passes = absurd cc

pub literal : (p : ℕ → Bool) → Spares p → (bytes : List ℕ) → all_plain bytes ≡ true → Without p bytes
literal p spares [] plain = tt
literal p spares (byte ∷ bytes) plain =
    let parts = and_parts (eqb byte 32 || leb 48 byte) (all_plain bytes) plain in
    (plain_byte p spares byte (eqb byte 32) (leb 48 byte) refl refl parts.0, literal p spares bytes parts.1)

high_digit : (byte : ℕ) → digit_value byte < 10 → 48 ≤ byte
high_digit byte digit = grind arith

digits-without : (p : ℕ → Bool) → Spares p → (bytes : List ℕ) → AllDigits 10 bytes → Without p bytes
digits-without p spares [] digits = tt
digits-without p spares (byte ∷ bytes) digits = (spares.above byte (high_digit byte digits.0), digits-without p spares bytes digits.1)

pub decimal-without : (p : ℕ → Bool) → Spares p → (number : ℕ) → number < 2 ^ 64 → Without p (decimal number)
decimal-without p spares number small = digits-without p spares (decimal number) (decimal_is_IsNumeral number small).0.1

hex_high : (byte value : ℕ) → hex_digit_value byte ≡ Some value → 48 ≤ byte
hex_high byte value e = grind arith

pub hex-without : (p : ℕ → Bool) → Spares p → (bytes : List ℕ) → IsBytes bytes → Without p (encode_lower bytes)
unfolding encode_with
hex-without p spares [] fits = tt
hex-without p spares (byte ∷ bytes) fits =
    let small : byte < 256 = fits 0 in
    let high : byte / 16 < 16 = omega arith in
    let low : byte % 16 < 16 = omega arith in (
      spares.above _ (hex_high _ _ (IsDigits-lower_digits (byte / 16) high)),
      (spares.above _ (hex_high _ _ (IsDigits-lower_digits (byte % 16) low)), hex-without p spares bytes (λ k. fits (suc k))),
    )

pub fate_words-without : (p : ℕ → Bool) → Spares p → (fate : FateValue) → MayBefall fate → Without p (fate_words fate)
fate_words-without p spares (Cut count) may =
    without-append p (codes "cut ") (decimal count) (literal p spares (codes "cut ") refl) (decimal-without p spares count (omega (arith, may)))
fate_words-without p spares (Hit place bytes) may =
    without-append p (codes "hit " ++ decimal place ++ codes " ") (encode_lower bytes)
    (without-append p (codes "hit " ++ decimal place) (codes " ")
    (without-append p (codes "hit ") (decimal place) (literal p spares (codes "hit ") refl) (decimal-without p spares place (omega (arith, may.0))))
    (literal p spares (codes " ") refl))
    (hex-without p spares bytes may.1)
fate_words-without p spares (Noise bytes) may =
    without-append p (codes "noise ") _ (literal p spares (codes "noise ") refl) (hex-without p spares bytes may.0)
fate_words-without p spares Untouched may = literal p spares (codes "ok") refl
fate_words-without p spares Lost may = literal p spares (codes "lost") refl
fate_words-without p spares Late may = literal p spares (codes "late") refl
fate_words-without p spares Unplug may = literal p spares (codes "unplug") refl
fate_words-without p spares Abort may = literal p spares (codes "abort") refl
