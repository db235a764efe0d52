-- Ids in bytes: the numbers of each four bytes, and their texts.
use Rattle.std.proofs.lemmas.Bool.Decides.{nat_tests}
use Rattle.std.proofs.lemmas.Grind.{common_steps}
use Rattle.std.proofs.Common.{◌≡◌, ℕ, zero, suc, ◌+◌, ◌*◌, ◌/◌, ◌<◌, ◌≤◌, false, ltb, leb, List, [], ◌∷◌, ◌++◌, length, drop, Some, None, refl, sym, ap, ◌∙◌}
use Rattle.std.proofs.Common.{arith}
use Rattle.std.specs.List.{slice_get, AllByRecursion}
use Rattle.std.specs.Int.{w32}
use Rattle.std.proofs.lemmas.Bool.{leb-true, le-leb, lt-leb, le-ltb}
use Rattle.std.proofs.lemmas.Nat.{from_be_bytes-to_be_bytes_4}
use Rattle.std.proofs.lemmas.Option.{slice_get_past}
use Rattle.dlp_args.proofs.NumberLaws.{IsBytes, IsBytes-drop, IsBytes-take, wide32}
use Rattle.dlp_args.specs.CellReading.{number_at}
use Rattle.dlp_replies.specs.Checks.{first_bad}
use Rattle.dlp_replies.specs.IdLists.{IsId, ids_text, words, ids_checks}
use Rattle.dlp_replies.proofs.ListLaws.{at_place, past_place, test_passes}

enough : (a b c d : ℕ) (bytes : List ℕ) → ltb (length (a ∷ b ∷ c ∷ d ∷ bytes)) 4 ≡ false
enough a b c d bytes = le-ltb _ _ (omega arith)

pub first_word : (bytes : List ℕ) (n : ℕ) (rest : List ℕ) → number_at w32 bytes ≡ Some (n, rest) → words bytes ≡ n ∷ words rest
unfolding number_at words
first_word bytes n rest e = grind arith

pub no_word : (bytes : List ℕ) → number_at w32 bytes ≡ None → words bytes ≡ []
unfolding number_at words
no_word bytes e = grind arith

pub words_len : (bytes : List ℕ) → length (words bytes) ≡ length bytes / 4
unfolding words
words_len [] = refl
words_len (a ∷ []) = omega arith
words_len (a ∷ b ∷ []) = omega arith
words_len (a ∷ b ∷ c ∷ []) = omega arith
words_len (a ∷ b ∷ c ∷ d ∷ bytes) = omega (arith, words_len bytes)

four_more : (place : ℕ) → 4 * suc place ≡ suc (suc (suc (suc (4 * place))))
four_more place = omega arith

words_from : (place : ℕ) (bytes : List ℕ) → words (drop (4 * place) bytes) ≡ drop place (words bytes)
unfolding words
words_from zero bytes = refl
words_from (suc place) [] = rw (four_more place) refl
words_from (suc place) (a ∷ []) = rw (four_more place) refl
words_from (suc place) (a ∷ b ∷ []) = rw (four_more place) refl
words_from (suc place) (a ∷ b ∷ c ∷ []) = rw (four_more place) refl
words_from (suc place) (a ∷ b ∷ c ∷ d ∷ bytes) = rw (four_more place) (words_from place bytes)

pub word_past : (bytes : List ℕ) (place : ℕ) → length bytes / 4 ≤ place → slice_get (words bytes) place ≡ None
word_past bytes place past = slice_get_past (words bytes) place (omega (arith, words_len bytes))

pub word_at : (bytes : List ℕ) (place n : ℕ) (rest : List ℕ) → number_at w32 (drop (4 * place) bytes) ≡ Some (n, rest) → slice_get (words bytes) place ≡ Some n
word_at bytes place n rest e = grind (arith, nat_tests, common_steps, at_place, words_from, first_word)

pub word_none : (bytes : List ℕ) (place : ℕ) → number_at w32 (drop (4 * place) bytes) ≡ None → slice_get (words bytes) place ≡ None
word_none bytes place e = past_place (words bytes) place (sym (words_from place bytes) ∙ no_word (drop (4 * place) bytes) e)

-- ---- tests

pub are_ids : (at : ℕ) (ids : List ℕ) → first_bad (ids_checks at ids) ≡ None → AllByRecursion IsId ids
are_ids at [] e = tt
are_ids at (id ∷ ids) e = let passed = test_passes (leb id 16777215) _ at e in (leb-true _ _ passed.0, are_ids (at + 4) ids passed.1)

pub good_first : (at id : ℕ) (ids : List ℕ) → id ≤ 16777215 → first_bad (ids_checks at (id ∷ ids)) ≡ first_bad (ids_checks (at + 4) ids)
good_first at id ids fits = rw (le-leb id 16777215 fits) refl

pub bad_first : (at id : ℕ) (ids : List ℕ) → 16777215 < id → first_bad (ids_checks at (id ∷ ids)) ≡ Some at
bad_first at id ids large = rw (lt-leb id 16777215 large) refl

pub ids_pass : (at : ℕ) (ids : List ℕ) → AllByRecursion IsId ids → first_bad (ids_checks at ids) ≡ None
ids_pass at [] all = refl
ids_pass at (id ∷ ids) all = rw (le-leb id 16777215 all.0) (ids_pass (at + 4) ids all.1)

-- ---- texts

pub ids_text_len : (ids : List ℕ) → length (ids_text ids) ≡ 4 * length ids
ids_text_len [] = refl
ids_text_len (id ∷ ids) = grind (arith, nat_tests, common_steps, ids_text_len ids)

pub words_of_text : (ids : List ℕ) → AllByRecursion IsId ids → words (ids_text ids) ≡ ids
unfolding words
words_of_text [] all = refl
words_of_text (id ∷ ids) all = let same = from_be_bytes-to_be_bytes_4 id (omega (arith, all.0)) in (λ i. same i ∷ words_of_text ids all.1 i)

pub text_of_words : (count : ℕ) (bytes : List ℕ) → IsBytes bytes → 4 * count ≡ length bytes → (length (words bytes) ≡ count) × (ids_text (words bytes) ≡ bytes)
unfolding words
text_of_words count [] fits e = (omega arith, refl)
text_of_words count (a ∷ []) fits e = absurd (omega arith)
text_of_words count (a ∷ b ∷ []) fits e = absurd (omega arith)
text_of_words count (a ∷ b ∷ c ∷ []) fits e = absurd (omega arith)
text_of_words zero (a ∷ b ∷ c ∷ d ∷ bytes) fits e = absurd (omega arith)
text_of_words (suc count) (a ∷ b ∷ c ∷ d ∷ bytes) fits e =
    let more = text_of_words count bytes (IsBytes-drop 4 (a ∷ b ∷ c ∷ d ∷ bytes) fits) (omega arith) in
    let four = wide32.back (a ∷ b ∷ c ∷ d ∷ []) refl (IsBytes-take 4 (a ∷ b ∷ c ∷ d ∷ bytes) fits) in
    (ap (λ (n : ℕ). suc n) more.0, (λ i. four i ++ more.1 i))
