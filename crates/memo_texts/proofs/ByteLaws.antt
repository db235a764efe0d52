-- The byte of a character is found.
use Rattle.std.proofs.lemmas.Bool.{eqb-true, cases_eq}
use Rattle.std.proofs.lemmas.Bool.Decides.{nat_tests}
use Rattle.std.proofs.Math.Seq.{take-length}
use Rattle.std.proofs.Common.{arith, ◌≡◌, ◌<◌, ◌≤◌, ◌++◌, ◌∷◌, [], ◌∙◌, ◌==◌, ◌+◌, ◌⊎◌, inl, inr, ap, refl, sym, subst, ℕ, zero, suc, Bool, true, false, List, cond, append_assoc, append-nil, length, take, IsUtf8, Option, None, Some}
use Rattle.std.proofs.lemmas.List.{length-append}
use Rattle.std.proofs.lemmas.Str.{IsUtf8-from_is_utf8, chars-nil, is_utf8-from_IsUtf8, utf8_valid_len-IsUtf8}
use Rattle.std.specs.Prelude.{chars}
use Rattle.std.specs.Option.{is_none, option_map}
use Rattle.std.specs.Str.{is_utf8}
use Rattle.palm_records.specs.Characters.{char_of}
use Rattle.palm_records.proofs.CharacterLaws.{char_of_injective}
use Rattle.memo_texts.specs.declared.fault.Flaw.TheVariants.{NoByte, NotUtf8}
use Rattle.memo_texts.specs.declared.fault.LineFlaw.{LineFlaw}
use Rattle.memo_texts.specs.Characters.{byte_below, byte_of, bytes_of, line_bytes, with_first}
use Rattle.memo_texts.specs.Flaws.{character_flaw, flaw_at, flaw_from}

-- the byte at the top, or one below it
found_step : (t : Bool) (n b : ℕ) → (char_of n == char_of b) ≡ t → n < 256 → b < suc n → (b < n → byte_below n (char_of b) ≡ Some b)
    → cond t (Some n) (byte_below n (char_of b)) ≡ Some b
found_step true n b is few below rest = ap Some (char_of_injective n b few (omega arith) (eqb-true (char_of n) (char_of b) is))
found_step false n b is few below rest =
    elim (cases_eq n b) [ inl same ↦ (let differs : (char_of b == char_of b) ≡ false = subst (λ (k : ℕ). (char_of k == char_of b) ≡ false) same is in absurd (grind (arith, nat_tests, differs))) | inr other ↦ rest (omega (arith, other)) ]

pub byte_below-char_of : (n b : ℕ) → n ≤ 256 → b < n → byte_below n (char_of b) ≡ Some b
unfolding byte_below
byte_below-char_of zero b few below = absurd (omega (arith, below))
byte_below-char_of (suc n) b few below =
    found_step (char_of n == char_of b) n b refl (omega (arith, few)) below (λ inner. byte_below-char_of n b (omega (arith, few)) inner)

-- a byte that stands for the character is found
pub byte_found : (b c : ℕ) → b < 256 → char_of b ≡ c → byte_below 256 c ≡ Some b
byte_found b c small is = subst (λ (k : ℕ). byte_below 256 k ≡ Some b) is (byte_below-char_of 256 b (omega arith) small)

none_step : (t : Bool) (n c : ℕ) → (char_of n == c) ≡ t → (char_of n ≡ c → ⊥) → byte_below n c ≡ None → cond t (Some n) (byte_below n c) ≡ None
none_step true n c is other rest = absurd (other (eqb-true (char_of n) c is))
none_step false n c is other rest = rest

-- where no byte stands for the character, none is found
pub byte_below-none : (n c : ℕ) → ((b : ℕ) → b < n → char_of b ≡ c → ⊥) → byte_below n c ≡ None
unfolding byte_below
byte_below-none zero c none = refl
byte_below-none (suc n) c none = none_step (char_of n == c) n c refl (none n (omega arith)) (byte_below-none n c (λ b below. none b (omega (arith, below))))

-- the bytes from 0xA0 on stand for the characters of their numbers
pub char_of-high : (b : ℕ) → 159 < b → char_of b ≡ b
unfolding char_of
char_of-high b high = grind (arith, nat_tests)

-- none of them stands for a character whose own number stands for another, or is no byte
pub high_none : (code c b : ℕ) → code ≡ c → 159 < b → b < 256 → (256 ≤ code) ⊎ (char_of code ≡ c → ⊥) → char_of b ≡ c → ⊥
high_none code c b same high small (inl large) is = omega (arith, same, char_of-high b high, is, large, small)
high_none code c b same high small (inr other) is =
    let own : b ≡ code = sym (char_of-high b high) ∙ (is ∙ sym same) in
    other (subst (λ (k : ℕ). char_of k ≡ c) own is)

-- ---- characters one by one

pub bytes_of-cons : (c : ℕ) (cs : List ℕ) → bytes_of (c ∷ cs) ≡ with_first (byte_of c) (bytes_of cs)
unfolding bytes_of
bytes_of-cons c cs = refl

first_behind : (front : List ℕ) (byte : ℕ) (rest : Option (List ℕ)) → option_map (λ l. front ++ l) (with_first (Some byte) rest) ≡ option_map (λ l. (front ++ byte ∷ []) ++ l) rest
first_behind front byte None = refl
first_behind front byte (Some rest) = ap Some (sym (append_assoc front (byte ∷ []) rest))

-- one more character has a byte
pub read_more : (front longer cs before : List ℕ) (all : Option (List ℕ)) (c byte : ℕ) → before ≡ c ∷ cs → byte_of c ≡ Some byte → longer ≡ front ++ byte ∷ []
    → option_map (λ l. front ++ l) (bytes_of before) ≡ all → option_map (λ l. longer ++ l) (bytes_of cs) ≡ all
read_more front longer cs before all c byte split is grown held =
    let one : bytes_of before ≡ with_first (Some byte) (bytes_of cs) = ap bytes_of split ∙ (bytes_of-cons c cs ∙ ap (λ b. with_first b (bytes_of cs)) is) in
    rw grown (sym (first_behind front byte (bytes_of cs)) ∙ (sym (ap (option_map (λ l. front ++ l)) one) ∙ held))

-- one more has none
pub read_bad : (front cs before : List ℕ) (all : Option (List ℕ)) (c : ℕ) → before ≡ c ∷ cs → byte_of c ≡ None
    → option_map (λ l. front ++ l) (bytes_of before) ≡ all → all ≡ None
read_bad front cs before all c split is held =
    let one : bytes_of before ≡ None = ap bytes_of split ∙ (bytes_of-cons c cs ∙ ap (λ b. with_first b (bytes_of cs)) is) in
    sym held ∙ ap (option_map (λ l. front ++ l)) one

-- no character is left
pub read_end : (front rest : List ℕ) (all : Option (List ℕ)) → length rest ≡ 0 → option_map (λ l. front ++ l) (bytes_of (chars rest)) ≡ all → all ≡ Some front
unfolding bytes_of
read_end front [] all none held =
    sym held ∙ (ap (λ l. option_map (λ m. front ++ m) (bytes_of l)) chars-nil ∙ ap Some (append-nil front))
read_end front (byte ∷ rest) all none held = absurd (omega (arith, none))

-- ---- lines in UTF-8

by_utf8 : (t : Bool) (line : List ℕ) → is_utf8 line ≡ t → (IsUtf8 line → ⊥) → cond t (bytes_of (chars line)) None ≡ None
by_utf8 true line is none = absurd (none (IsUtf8-from_is_utf8 line is))
by_utf8 false line is none = refl

pub line_bytes-bad : (line : List ℕ) → (IsUtf8 line → ⊥) → line_bytes line ≡ None
line_bytes-bad line none = by_utf8 (is_utf8 line) line refl none

pub line_bytes-good : (line : List ℕ) → IsUtf8 line → line_bytes line ≡ bytes_of (chars line)
line_bytes-good line good = rw (is_utf8-from_IsUtf8 line good) refl

-- ---- the first character that has no byte

flaw_from-cons : (column c : ℕ) (cs : List ℕ) → flaw_from column (c ∷ cs) ≡ cond (is_none (byte_of c)) (flaw_at column (NoByte c)) (flaw_from (suc column) cs)
unfolding flaw_from
flaw_from-cons column c cs = refl

-- one more character has a byte
pub flaw_more : (front longer cs before : List ℕ) (all : LineFlaw) (c byte : ℕ) → before ≡ c ∷ cs → byte_of c ≡ Some byte → longer ≡ front ++ byte ∷ []
    → flaw_from (length front + 1) before ≡ all → flaw_from (length longer + 1) cs ≡ all
flaw_more front longer cs before all c byte split is grown held =
    let size : length longer + 1 ≡ suc (length front + 1) = omega (arith, ap length grown, length-append front (byte ∷ [])) in
    let one : flaw_from (length front + 1) before ≡ flaw_from (suc (length front + 1)) cs =
    ap (flaw_from (length front + 1)) split ∙ (flaw_from-cons (length front + 1) c cs ∙ rw is refl) in
    ap (λ n. flaw_from n cs) size ∙ (sym one ∙ held)

-- one more has none
pub flaw_bad : (column c : ℕ) (cs before : List ℕ) (all : LineFlaw) → before ≡ c ∷ cs → byte_of c ≡ None → flaw_from column before ≡ all
    → all ≡ flaw_at column (NoByte c)
flaw_bad column c cs before all split is held = sym held ∙ (ap (flaw_from column) split ∙ (flaw_from-cons column c cs ∙ rw is refl))

-- no character is left
pub flaw_end : (column : ℕ) (rest : List ℕ) (all : LineFlaw) → length rest ≡ 0 → flaw_from column (chars rest) ≡ all → all ≡ flaw_at column NotUtf8
unfolding flaw_from
flaw_end column [] all none held = sym held ∙ ap (flaw_from column) chars-nil
flaw_end column (byte ∷ rest) all none held = absurd (omega (arith, none))

-- a line in UTF-8 is all of it
pub character_flaw-good : (line : List ℕ) → IsUtf8 line → character_flaw line ≡ flaw_from 1 (chars line)
character_flaw-good line good = ap (λ l. flaw_from 1 (chars l)) (ap (λ n. take n line) (utf8_valid_len-IsUtf8 line good) ∙ take-length line)
