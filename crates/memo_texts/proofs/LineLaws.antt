-- The lines of a text.
use Rattle.std.proofs.lemmas.Bool.Decides.{nat_tests}
use Rattle.std.proofs.lemmas.List.Quantifiers.{position-Some}
use Rattle.std.proofs.lemmas.List.Sums.{fails_before_first}
use Rattle.std.proofs.Common.{arith, ◌≡◌, ◌<◌, ◌≤◌, ◌∷◌, [], ◌==◌, ap, refl, ℕ, zero, suc, Bool, true, false, List, drop, take, length, get_or, None, Some}
use Rattle.std.specs.Prelude.{position}
use Rattle.std.specs.List.{onto_first, position_or_len}
use Rattle.memo_texts.specs.Lines.{lines_in}

abbrev pub is_feed : ℕ → Bool
is_feed byte = byte == 10

pub lines_in-at : (text : List ℕ) (place : ℕ) → place < length text → is_feed (get_or text place 0) ≡ true → ((k : ℕ) → k < place → is_feed (get_or text k 0) ≡ false)
    → lines_in text ≡ take place text ∷ lines_in (drop (suc place) text)
unfolding lines_in
lines_in-at [] place inside is before = absurd (omega (arith, inside))
lines_in-at (byte ∷ text) zero inside is before = rw is refl
lines_in-at (byte ∷ text) (suc place) inside is before =
    let first = before 0 (omega arith) in
    let rest = lines_in-at text place (omega (arith, inside)) is (λ k below. before (suc k) (omega (arith, below))) in
    rw first (ap (onto_first byte) rest)

pub lines_in-whole : (text : List ℕ) → 0 < length text → ((k : ℕ) → k < length text → is_feed (get_or text k 0) ≡ false) → lines_in text ≡ text ∷ []
unfolding lines_in
lines_in-whole [] some none = absurd (omega (arith, some))
lines_in-whole (byte ∷ []) some none = let first = none 0 (omega arith) in rw first refl
lines_in-whole (byte ∷ next ∷ text) some none =
    let first = none 0 (omega arith) in
    let rest = lines_in-whole (next ∷ text) (omega arith) (λ k below. none (suc k) (omega (arith, below))) in
    rw first (ap (onto_first byte) rest)

pub lines_in-position : (text : List ℕ) (place : ℕ) → position is_feed text ≡ Some place → lines_in text ≡ take place text ∷ lines_in (drop (suc place) text)
lines_in-position text place is =
    let at = position-Some is_feed text place 0 is in
    lines_in-at text place at.0 at.1 at.2

no_feed : (text : List ℕ) → position is_feed text ≡ None → (k : ℕ) → k < length text → is_feed (get_or text k 0) ≡ false
no_feed text none k inside =
    let far : length text ≤ position_or_len is_feed text = grind (arith, nat_tests, none) in
    fails_before_first is_feed text k 0 (omega (arith, inside, far))

pub lines_in-one : (text : List ℕ) → 0 < length text → position is_feed text ≡ None → lines_in text ≡ text ∷ []
lines_in-one text some none = lines_in-whole text some (no_feed text none)

pub lines_in-nil : lines_in [] ≡ []
unfolding lines_in
lines_in-nil = refl
