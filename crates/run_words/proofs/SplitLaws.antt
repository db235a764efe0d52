-- Items with commas between them.
use Rattle.std.proofs.Common.{◌≡◌, ℕ, suc, ◌+◌, ◌<◌, Bool, cond, List, [], ◌∷◌, length, Option, Some, None, refl, arith}
use Rattle.std.specs.Prelude.{not}
use Rattle.std.specs.List.{slice_split, onto_first, position_or_len, before_first, after_first}
use Rattle.std.proofs.lemmas.List.Splits.{slice_split_first}
use Rattle.run_words.specs.Actions.{is_comma}

-- a text with a comma is what stands before the first one, and the items behind it
pub slice_split-comma : (text : List ℕ) {first more : List ℕ} → first ≡ before_first is_comma text → more ≡ after_first is_comma text
    → position_or_len is_comma text < length text → slice_split is_comma text ≡ first ∷ slice_split is_comma more
slice_split-comma text before after within = rw (before, after) (slice_split_first is_comma text 0 within)

no_comma : (b : Bool) (n : ℕ) (x : ℕ) (xs : List ℕ) → cond (not b) (1 + n) 0 ≡ suc (length xs) → (n ≡ length xs → slice_split is_comma xs ≡ xs ∷ [])
    → cond b ([] ∷ slice_split is_comma xs) (onto_first x (slice_split is_comma xs)) ≡ (x ∷ xs) ∷ []
no_comma b n x xs e next = grind arith

-- a text without a comma is one item
pub slice_split-alone : (text : List ℕ) → position_or_len is_comma text ≡ length text → slice_split is_comma text ≡ text ∷ []
slice_split-alone [] e = refl
slice_split-alone (x ∷ xs) e = no_comma (is_comma x) (position_or_len is_comma xs) x xs e (slice_split-alone xs)

-- how much is left of a text, and one more where there is one
abbrev pub length_left : Option (List ℕ) → ℕ
length_left None = 0
length_left (Some text) = length text + 1
