-- The name of a word, as its characters are read.
use Rattle.std.proofs.lemmas.Bool.{lt-ltb}
use Rattle.std.proofs.lemmas.Bool.Decides.{nat_tests}
use Rattle.std.proofs.lemmas.List.{length-append}
use Rattle.std.proofs.Common.{◌≡◌, ◌∙◌, ◌<◌, ◌≤◌, ap, sym, arith, ℕ, true, false, List, [], ◌∷◌, ◌++◌, length}
use Rattle.std.specs.Prelude.{◌==◌, ◌||◌, Option, None, Some, chars, option_and_then, if◌then◌else◌}
use Rattle.std.specs.List.{list_any}
use Rattle.std.specs.Option.{option_map}
use Rattle.pdb_values.specs.Users.{user_name_of}
use Rattle.memo_texts.specs.Characters.{byte_of, bytes_of, with_first}
use Rattle.memo_texts.proofs.ByteLaws.{bytes_of-cons}
use Rattle.run_words.specs.UserNames.{as_name, user_of}

pub zero-of : (n : ℕ) → (n == 0) ≡ true → n ≡ 0
zero-of n is = grind (arith, nat_tests)

pub some-of : (n : ℕ) → (n == 0) ≡ false → n ≡ 0 → ⊥
some-of n some none = grind (arith, nat_tests)

-- a word that has a character without a byte names nobody
pub user-none : (word : List ℕ) → bytes_of (chars word) ≡ None → user_of word ≡ None
unfolding user_of
user-none word none = ap (option_and_then as_name) none

-- another one names whom its bytes name
pub user-some : (word bytes : List ℕ) → bytes_of (chars word) ≡ Some bytes → user_of word ≡ as_name bytes
unfolding user_of
user-some word bytes some = ap (option_and_then as_name) some

-- more than 40 bytes are no name
pub as_name-long : (bytes : List ℕ) → 40 < length bytes → as_name bytes ≡ None
as_name-long [] long = absurd (omega (arith, long))
as_name-long (byte ∷ bytes) long =
    ap (λ b. if b then None else user_name_of (byte ∷ bytes)) (let some : (length (byte ∷ bytes) == 0) ≡ false = grind (arith, nat_tests) in some)
    ∙ ap (λ b. if b || list_any (λ byte. byte == 0) (byte ∷ bytes) then None else Some (byte ∷ bytes)) (lt-ltb 40 (length (byte ∷ bytes)) long)

-- so is a word with one more character behind 40
-- no bytes are no name
pub user-empty : (word bytes : List ℕ) → bytes_of (chars word) ≡ Some bytes → (length bytes ≡ 0) → user_of word ≡ None
user-empty word [] some none = user-some word [] some
user-empty word (byte ∷ bytes) some none = absurd (omega (arith, none))

-- other bytes are, as far as they are a name's
pub user-full : (word bytes : List ℕ) → bytes_of (chars word) ≡ Some bytes → (length bytes ≡ 0 → ⊥) → user_of word ≡ user_name_of bytes
user-full word bytes some full =
    user-some word bytes some
    ∙ ap (λ b. if b then None else user_name_of bytes) (let no : (length bytes == 0) ≡ false = grind (arith, nat_tests) in no)

pub user-long : (word front cs before : List ℕ) (c byte : ℕ) → before ≡ c ∷ cs → byte_of c ≡ Some byte → 40 ≤ length front
    → option_map (λ l. front ++ l) (bytes_of before) ≡ bytes_of (chars word) → user_of word ≡ None
user-long word front cs before c byte split is full held =
    by (bytes_of cs) (sym held ∙ ap (option_map (λ l. front ++ l)) (ap bytes_of split ∙ (bytes_of-cons c cs ∙ ap (λ b. with_first b (bytes_of cs)) is)))
  where
    by : (rest : Option (List ℕ)) → bytes_of (chars word) ≡ option_map (λ l. front ++ l) (with_first (Some byte) rest) → user_of word ≡ None
    by None none = user-none word none
    by (Some bytes) some =
        user-some word (front ++ byte ∷ bytes) some
        ∙ as_name-long (front ++ byte ∷ bytes) (let count = length-append front (byte ∷ bytes) in omega (arith, full, count))
