-- The lines of a text, from the front on.
use Rattle.std.proofs.Common.{◌≡◌, ℕ, suc, ◌+◌, ◌-◌, ◌<◌, Bool, true, false, cond, eqb, List, [], ◌∷◌, length, take, drop, Some, None}
use Rattle.std.proofs.Common.{refl, ap, ◌∙◌, arith}
use Rattle.std.specs.Prelude.{position}
use Rattle.std.specs.List.{position_or_len}
use Rattle.std.proofs.lemmas.Bool.{ltb-true, ltb-false}
use Rattle.std.proofs.lemmas.List.{length-drop, take_all}
use Rattle.std.proofs.Math.ListN.{drop_of_length-le}
use Rattle.line_script.specs.Lines.{begin, lines_of}
use Rattle.line_script.proofs.WordLaws.{test_some, some_is}

abbrev pub feed_place : List ℕ → ℕ
feed_place bytes = position_or_len (λ byte. eqb byte 10) bytes

lines_of-feed : (bytes : List ℕ) → feed_place bytes < length bytes
    → lines_of bytes ≡ take (feed_place bytes) bytes ∷ lines_of (drop (feed_place bytes + 1) bytes)
lines_of-feed [] less = absurd (omega arith)
lines_of-feed (byte ∷ bytes) less = go (λ inside. lines_of-feed bytes inside) (eqb byte 10) refl
  where
    go : (feed_place bytes < length bytes → lines_of bytes ≡ take (feed_place bytes) bytes ∷ lines_of (drop (feed_place bytes + 1) bytes)) → (b : Bool) → eqb
        byte 10 ≡ b → lines_of (byte ∷ bytes) ≡ take (feed_place (byte ∷ bytes)) (byte ∷ bytes) ∷ lines_of (drop (feed_place (byte ∷ bytes) + 1) (byte ∷ bytes))
    go later true e = let place : feed_place (byte ∷ bytes) ≡ 0 = rw e refl in rw (place, e) refl
    go later false e =
        let past : feed_place (byte ∷ bytes) ≡ 1 + feed_place bytes = rw e refl in
        let place : feed_place (byte ∷ bytes) ≡ suc (feed_place bytes) = omega arith in
        let next : suc (feed_place bytes) + 1 ≡ suc (feed_place bytes + 1) = omega arith in
        rw (place, next, e, later (omega arith)) refl

lines_of-last : (bytes : List ℕ) → 0 < length bytes → feed_place bytes ≡ length bytes → lines_of bytes ≡ bytes ∷ []
lines_of-last [] some none = absurd (omega arith)
lines_of-last (byte ∷ []) some none = grind arith
lines_of-last (byte ∷ next ∷ bytes) some none = go (λ none. lines_of-last (next ∷ bytes) (omega arith) none) (eqb byte 10) refl
  where
    go : (feed_place (next ∷ bytes) ≡ length (next ∷ bytes) → lines_of (next ∷ bytes) ≡ (next ∷ bytes) ∷ [])
        → (b : Bool) → eqb byte 10 ≡ b → lines_of (byte ∷ next ∷ bytes) ≡ (byte ∷ next ∷ bytes) ∷ []
    go later true e = let place : feed_place (byte ∷ next ∷ bytes) ≡ 0 = rw e refl in absurd (omega arith)
    go later false e =
        let past : feed_place (byte ∷ next ∷ bytes) ≡ 1 + feed_place (next ∷ bytes) = rw e refl in
        ap (λ b. cond b ([] ∷ lines_of (next ∷ bytes)) (begin byte (lines_of (next ∷ bytes)))) e ∙ ap (begin byte) (later (omega arith))

-- where a line feed stands first, the line ends
pub line-ended : (bytes : List ℕ) (end : ℕ) → position (λ byte. eqb byte 10) bytes ≡ Some end
    → lines_of bytes ≡ take end bytes ∷ lines_of (drop (end + 1) bytes)
line-ended bytes end e = grind (arith, test_some, some_is, lines_of-feed, ltb-true)

within : (bytes : List ℕ) → feed_place bytes < length bytes + 1
within [] = omega arith
within (byte ∷ bytes) = grind (arith, within bytes)

none_place : (bytes : List ℕ) → position (λ byte. eqb byte 10) bytes ≡ None → length bytes < feed_place bytes + 1
none_place bytes none = grind (arith, ltb-false)

-- where there is none, all is one line
pub line-last : (bytes : List ℕ) → 0 < length bytes → position (λ byte. eqb byte 10) bytes ≡ None → lines_of bytes ≡ bytes ∷ []
line-last bytes some e = grind (arith, lines_of-last, none_place, within)

-- the front of what is lent from a place on is all of it
pub lent-rest : (bytes : List ℕ) (place : ℕ) → take (length bytes - place) (drop place bytes) ≡ drop place bytes
lent-rest bytes place = take_all _ _ (omega (arith, length-drop place bytes))

pub lent-line : (bytes : List ℕ) (end : ℕ) → position (λ byte. eqb byte 10) bytes ≡ Some end
    → lines_of bytes ≡ take end bytes ∷ lines_of (take (length bytes - (end + 1)) (drop (end + 1) bytes))
lent-line bytes end e = grind (arith, line-ended, lent-rest)

pub lent-last : (bytes : List ℕ) → 0 < length bytes → position (λ byte. eqb byte 10) bytes ≡ None
    → lines_of bytes ≡ bytes ∷ lines_of (take (length bytes - length bytes) (drop (length bytes) bytes))
lent-last bytes some e = grind (arith, lent-rest, drop_of_length-le, line-last)
