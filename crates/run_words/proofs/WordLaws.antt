-- Words, one by one and in a list.
use Rattle.std.proofs.Common.{get_or, string_bytes, String, Global, ◌<◌, ◌≤◌, ◌≡◌, ◌≢◌, ◌⊎◌, inl, inr, ℕ, zero, suc, ◌+◌, ◌-◌, ◌==◌, ◌||◌, Bool, true, false, cond, List, [], ◌∷◌}
use Rattle.std.proofs.Common.{◌++◌, drop, length, map, refl, sym, ap, arith, Option, Some, None}
use Rattle.std.proofs.lemmas.Bool.Decides.{nat_tests}
use Rattle.std.specs.Prelude.{option_copied, option_and_then, MatchOption}
use Rattle.std.specs.Borrow.{Bor}
use Rattle.std.specs.List.{filter, find, list_any}
use Rattle.std.specs.Str.Pattern.{FindsTextPrefix, StripsPrefix}
use Rattle.std.specs.Option.{option_map, option_or}
use Rattle.run_words.specs.Forms.{plain_at, value_in, value_of}
use Rattle.run_words.specs.Words.{after, is_plain}

after-append : (name rest : List ℕ) → after name (name ++ rest) ≡ Some rest
after-append [] rest = refl
after-append (x ∷ xs) rest = let same : (x == x) ≡ true = grind (arith, nat_tests) in rw same (after-append xs rest)

cases_eq : (m n : ℕ) → (m ≡ n) ⊎ (m ≢ n)
cases_eq m n = grind arith

after-none : (name text : List ℕ) → ((rest : List ℕ) → ¬ (text ≡ name ++ rest)) → after name text ≡ None
after-none [] text h = absurd (h text refl)
after-none (x ∷ xs) [] h = refl
after-none (x ∷ xs) (y ∷ ys) h = elim (cases_eq x y) [
  | inl same ↦ let test : (x == y) ≡ true = grind (arith, nat_tests) in
      rw test (after-none xs ys (λ rest e. h rest (rw (same, e) refl)))
  | inr apart ↦ let test : (x == y) ≡ false = grind (arith, nat_tests) in rw test refl
]

pub value_after-is : (name word : List ℕ) (r : Option (Bor (List ℕ)))
    → MatchOption r (FindsTextPrefix name word None) (λ x. StripsPrefix (FindsTextPrefix name) word x.now) → option_copied r ≡ after name word
value_after-is name word None h = sym (after-none name word h)
value_after-is name word (Some x) h = grind (arith, after-append name (drop h.0 word))

-- what follows two parts is what follows the second, behind what follows the first
pub after-parts : (one two word : List ℕ) → after (one ++ two) word ≡ option_and_then (after two) (after one word)
after-parts [] two word = refl
after-parts (x ∷ xs) two [] = refl
after-parts (x ∷ xs) two (y ∷ ys) = grind (arith, after-parts xs two ys)

-- a text is a first part and what follows it
pub after-is : (one word : List ℕ) {rest : List ℕ} → after one word ≡ Some rest → word ≡ one ++ rest
after-is [] word e = cc
after-is (x ∷ xs) [] e = cc
after-is (x ∷ xs) (y ∷ ys) {rest} e = grind (arith, after-is xs ys, nat_tests)

pub list_any-map : {X Y : Type 0} (p : Y → Bool) (f : X → Y) (xs : List X) → list_any (λ x. p (f x)) xs ≡ list_any p (map f xs)
list_any-map p f [] = refl
list_any-map p f (x ∷ xs) = ap (λ b. p (f x) || b) (list_any-map p f xs)

pub find-map : {X Y : Type 0} (p : Y → Bool) (f : X → Y) (xs : List X) → option_map f (find (λ x. p (f x)) xs) ≡ find p (map f xs)
find-map p f [] = refl
find-map p f (x ∷ xs) = first (p (f x)) (find-map p f xs)
  where
    first : (b : Bool) → option_map f (find (λ x. p (f x)) xs) ≡ find p (map f xs)
        → option_map f (cond b (Some x) (find (λ x. p (f x)) xs)) ≡ cond b (Some (f x)) (find p (map f xs))
    first true rest = refl
    first false rest = rest

pub length-filter-map : {X Y : Type 0} (p : Y → Bool) (f : X → Y) (xs : List X) → length (filter (λ x. p (f x)) xs) ≡ length (filter p (map f xs))
length-filter-map p f [] = refl
length-filter-map p f (x ∷ xs) = grind (arith, length-filter-map p f xs)

-- one more word of a list
pub drop-word : (words : List (String Global)) (i : ℕ) {word : String Global} → i < length words → word ≡ get_or words i word
    → drop i (map string_bytes words) ≡ string_bytes word ∷ drop (i + 1) (map string_bytes words)
drop-word [] i lt at = absurd (omega arith)
drop-word (x ∷ xs) zero lt at = rw at refl
drop-word (x ∷ xs) (suc i) lt at =
    let next : suc i + 1 ≡ suc (i + 1) = omega arith in
    rw next (drop-word xs i (omega arith) at)

-- and none is left
pub drop-words : (words : List (String Global)) (i : ℕ) → length words ≤ i → drop i (map string_bytes words) ≡ []
drop-words [] zero le = refl
drop-words [] (suc i) le = refl
drop-words (x ∷ xs) zero le = absurd (omega arith)
drop-words (x ∷ xs) (suc i) le = drop-words xs i (omega arith)

-- ---- what a list of words holds, by its first word

pub value_of-first : (name word : List ℕ) (words : List (List ℕ)) {value : List ℕ} → Some value ≡ value_in name word → Some value ≡ value_of name (word ∷ words)
value_of-first name word words e = ap (λ o. option_or o (value_of name words)) e

pub value_of-next : (name word : List ℕ) (words : List (List ℕ)) → None ≡ value_in name word → value_of name words ≡ value_of name (word ∷ words)
value_of-next name word words e = ap (λ o. option_or o (value_of name words)) e

pub plain_at-first : (word : List ℕ) (words : List (List ℕ)) → is_plain word ≡ true → plain_at 0 (word ∷ words) ≡ Some word
plain_at-first word words plain = rw plain refl

pub plain_at-next : (word : List ℕ) (words : List (List ℕ)) (place : ℕ) → is_plain word ≡ true → 0 < place → plain_at place (word ∷ words) ≡ plain_at (place - 1) words
plain_at-next word words zero plain some = absurd (omega arith)
plain_at-next word words (suc place) plain some = let less : suc place - 1 ≡ place = omega arith in rw (plain, less) refl

pub plain_at-other : (word : List ℕ) (words : List (List ℕ)) (place : ℕ) → is_plain word ≡ false → plain_at place (word ∷ words) ≡ plain_at place words
plain_at-other word words place other = rw other refl
