-- The lines of memos are told apart: none begins as a head does.
use Rattle.std.proofs.lemmas.Bool.{and_parts, eqb-true}
use Rattle.std.proofs.lemmas.Bool.Decides.{nat_tests}
use Rattle.std.proofs.lemmas.Str.{encode_ascii}
use Rattle.std.proofs.lemmas.List.{length-append}
use Rattle.std.proofs.Math.Utf8.{encode}
use Rattle.std.proofs.Common.{arith, ◌≡◌, ◌<◌, ◌++◌, ◌∷◌, [], ◌∙◌, ◌==◌, ◌&&◌, ◌⊎◌, inl, inr, ap, refl, sym, subst, ℕ, Bool, true, false, List, append_assoc, get_or, length}
use Rattle.std.specs.Prelude.{codes, nat_lt, if◌then◌else◌}
use Rattle.palm_records.specs.Characters.{char_of, char_text}
use Rattle.palm_records.proofs.CharacterLaws.{char_text_front, char_text_some}
use Rattle.memo_texts.specs.ExportHeads.{begins_with}
use Rattle.memo_texts.specs.Memos.{IsBytes, guard, guard_behind, lines_from}
use Rattle.memo_texts.proofs.HeadLaws.{IsBytes-rest, begins_with-cons, char_of-plain, is_plain}

abbrev pub dashes : List ℕ
dashes = codes "---"

-- a text that ends, or goes on with a head
abbrev pub IsEnd : List ℕ → Type 0
IsEnd rest = (rest ≡ []) ⊎ ((behind : List ℕ) × (rest ≡ 45 ∷ 45 ∷ 45 ∷ 32 ∷ behind))

-- ---- characters

char_text-plain : (c : ℕ) → 31 < c → c < 127 → char_text c ≡ c ∷ []
char_text-plain c low high = rw (char_of-plain c low high) (encode_ascii c (omega arith))

char_text-10 : char_text 10 ≡ 10 ∷ []
unfolding char_of encode
char_text-10 = refl

lines-nil : (s : List ℕ) → lines_from [] ++ s ≡ 10 ∷ s
unfolding lines_from
lines-nil s = refl

lines-cons : (x : ℕ) (xs s : List ℕ) → lines_from (x ∷ xs) ++ s ≡ char_text x ++ ((guard_behind x xs ++ lines_from xs) ++ s)
unfolding lines_from
lines-cons x xs s =
    append_assoc (char_text x ++ guard_behind x xs) (lines_from xs) s
    ∙ (append_assoc (char_text x) (guard_behind x xs) (lines_from xs ++ s)
    ∙ ap (λ l. char_text x ++ l) (sym (append_assoc (guard_behind x xs) (lines_from xs) s)))

some_lines : (memo s : List ℕ) → IsBytes memo → lines_from memo ++ s ≡ [] → ⊥
some_lines [] s h e = absurd (cc (sym (lines-nil s) ∙ e))
some_lines (x ∷ xs) s h e =
    let rest = (guard_behind x xs ++ lines_from xs) ++ s in
    let none : length (char_text x ++ rest) ≡ 0 = ap length (sym (lines-cons x xs s) ∙ e) in
    let some = char_text_some x (h 0) in
    omega (arith, none, some, length-append (char_text x) rest)

-- ---- words at the head of lines

-- where the lines begin with a word, the memo does
line_word : (word memo s z : List ℕ) → is_plain word ≡ true → IsBytes memo → lines_from memo ++ s ≡ word ++ z → begins_with word memo ≡ true
unfolding is_plain
line_word [] memo s z plain h e = refl
line_word (c ∷ cs) [] s z plain h e =
    let parts = and_parts (nat_lt 31 c && nat_lt c 127) (is_plain cs) plain in
    let first : 10 ≡ c = ap (λ l. get_or l 0 0) (sym (lines-nil s) ∙ e) in
    absurd (grind (arith, nat_tests, parts.0, first))
line_word (c ∷ cs) (x ∷ xs) s z plain h e =
    let parts = and_parts (nat_lt 31 c && nat_lt c 127) (is_plain cs) plain in
    let low : 31 < c = grind (arith, nat_tests, parts.0) in
    let high : c < 127 = grind (arith, nat_tests, parts.0) in
    let own : c ∷ (cs ++ z) ≡ char_text c ++ (cs ++ z) = ap (λ l. l ++ (cs ++ z)) (sym (char_text-plain c low high)) in
    let moved = sym (lines-cons x xs s) ∙ (e ∙ own) in
    let front = char_text_front x c ((guard_behind x xs ++ lines_from xs) ++ s) (cs ++ z) (h 0) (omega (arith, high)) moved in
    let other : (x == 10) ≡ false = grind (arith, nat_tests, front.0, low) in
    let rest = line_word cs xs s z parts.1 (IsBytes-rest x xs h) (rw other at front.1) in
    subst (λ (y : ℕ). begins_with (c ∷ cs) (y ∷ xs) ≡ true) (sym front.0) (begins_with-cons c cs xs rest)

-- where the memo begins with a word, the lines do
word_line : (word memo : List ℕ) → is_plain word ≡ true → begins_with word memo ≡ true → (z : List ℕ) × (lines_from memo ≡ word ++ z)
unfolding is_plain lines_from
word_line [] memo plain begins = (lines_from memo, refl)
word_line (c ∷ cs) [] plain begins = absurd (cc begins)
word_line (c ∷ cs) (x ∷ xs) plain begins =
    let parts = and_parts (nat_lt 31 c && nat_lt c 127) (is_plain cs) plain in
    let low : 31 < c = grind (arith, nat_tests, parts.0) in
    let high : c < 127 = grind (arith, nat_tests, parts.0) in
    let both = and_parts (c == x) (begins_with cs xs) begins in
    let same : c ≡ x = eqb-true c x both.0 in
    let other : (x == 10) ≡ false = grind (arith, nat_tests, same, low) in
    let rest = word_line cs xs parts.1 both.1 in
    let own : char_text x ≡ c ∷ [] = ap char_text (sym same) ∙ char_text-plain c low high in
    (rest.0, rw (other, own) (ap (λ l. c ∷ l) rest.1))

-- ---- lines and heads

-- what stands in front of a line
guarded : Bool → List ℕ
guarded dashed = if dashed then codes "-" else []

not_both : (memo : List ℕ) → begins_with dashes memo ≡ true → begins_with (codes "-- ") memo ≡ true → ⊥
not_both [] p q = cc
not_both (a ∷ []) p q = grind (arith, nat_tests)
not_both (a ∷ b ∷ []) p q = grind (arith, nat_tests)
not_both (a ∷ b ∷ c ∷ rest) p q = grind (arith, nat_tests)

-- a line is neither the end nor a head
no_end : (p : Bool) (memo s : List ℕ) → begins_with dashes memo ≡ p → IsBytes memo → IsEnd ((guarded p ++ lines_from memo) ++ s) → ⊥
unfolding guarded is_plain
no_end true memo s is h (inl e) = cc
no_end false memo s is h (inl e) = some_lines memo s h e
no_end true memo s is h (inr (behind, e)) = not_both memo is (line_word (codes "-- ") memo s behind refl h cc)
no_end false memo s is h (inr (behind, e)) = cc (sym is ∙ line_word dashes memo s (32 ∷ behind) refl h e)

no_end_behind : (memo s : List ℕ) → IsBytes memo → IsEnd ((guard memo ++ lines_from memo) ++ s) → ⊥
unfolding guarded
no_end_behind memo s h end = no_end (begins_with dashes memo) memo s refl h end

not_dashed : (a b s t : List ℕ) → begins_with dashes a ≡ true → begins_with dashes b ≡ false → IsBytes b → 45 ∷ (lines_from a ++ s) ≡ lines_from b ++ t → ⊥
unfolding is_plain
not_dashed a b s t is_a is_b k e =
    let whole = word_line dashes a refl is_a in
    let begun : lines_from b ++ t ≡ dashes ++ (45 ∷ (whole.0 ++ s)) = sym e ∙ ap (λ l. 45 ∷ (l ++ s)) whole.1 in
    cc (sym is_b ∙ line_word dashes b t (45 ∷ (whole.0 ++ s)) refl k begun)

-- two lines that are written alike are guarded alike
unguarded : (p q : Bool) (a b s t : List ℕ) → begins_with dashes a ≡ p → begins_with dashes b ≡ q → IsBytes a → IsBytes b
    → (guarded p ++ lines_from a) ++ s ≡ (guarded q ++ lines_from b) ++ t → lines_from a ++ s ≡ lines_from b ++ t
unfolding guarded
unguarded true true a b s t is_a is_b h k e = cc
unguarded false false a b s t is_a is_b h k e = e
unguarded true false a b s t is_a is_b h k e = absurd (not_dashed a b s t is_a is_b k e)
unguarded false true a b s t is_a is_b h k e = absurd (not_dashed b a t s is_b is_a h (sym e))

pub lines_behind : (a b s t : List ℕ) → IsBytes a → IsBytes b → (guard a ++ lines_from a) ++ s ≡ (guard b ++ lines_from b) ++ t
    → lines_from a ++ s ≡ lines_from b ++ t
unfolding guarded
lines_behind a b s t h k e = unguarded (begins_with dashes a) (begins_with dashes b) a b s t refl refl h k e

-- behind one byte
behind_byte : (n : Bool) (x y : ℕ) (xs ys s t : List ℕ) → (x == 10) ≡ n → (y == 10) ≡ n → IsBytes xs → IsBytes ys
    → (guard_behind x xs ++ lines_from xs) ++ s ≡ (guard_behind y ys ++ lines_from ys) ++ t → lines_from xs ++ s ≡ lines_from ys ++ t
behind_byte true x y xs ys s t is_x is_y h k e = lines_behind xs ys s t h k (rw (is_x, is_y) at e)
behind_byte false x y xs ys s t is_x is_y h k e = rw (is_x, is_y) at e

-- a memo's last line is no memo's other line
not_inside : (y : ℕ) (ys s t : List ℕ) → IsBytes (y ∷ ys) → IsEnd s → lines_from [] ++ s ≡ lines_from (y ∷ ys) ++ t → ⊥
not_inside y ys s t k end e =
    let rest = (guard_behind y ys ++ lines_from ys) ++ t in
    let own : char_text 10 ++ s ≡ 10 ∷ s = ap (λ l. l ++ s) char_text-10 in
    let moved = own ∙ (sym (lines-nil s) ∙ (e ∙ lines-cons y ys t)) in
    let front = char_text_front 10 y s rest (omega arith) (k 0) moved in
    let feed : (y == 10) ≡ true = grind (arith, nat_tests, front.0) in
    no_end_behind ys t (IsBytes-rest y ys k) (subst IsEnd (rw feed at front.1) end)

pub lines_front : (a b s t : List ℕ) → IsBytes a → IsBytes b → IsEnd s → IsEnd t → lines_from a ++ s ≡ lines_from b ++ t → (a ≡ b) × (s ≡ t)
lines_front [] [] s t h k end_s end_t e = (refl, cc (sym (lines-nil s) ∙ (e ∙ lines-nil t)))
lines_front [] (y ∷ ys) s t h k end_s end_t e = absurd (not_inside y ys s t k end_s e)
lines_front (x ∷ xs) [] s t h k end_s end_t e = absurd (not_inside x xs t s h end_t (sym e))
lines_front (x ∷ xs) (y ∷ ys) s t h k end_s end_t e =
    let moved = sym (lines-cons x xs s) ∙ (e ∙ lines-cons y ys t) in
    let front = char_text_front x y ((guard_behind x xs ++ lines_from xs) ++ s) ((guard_behind y ys ++ lines_from ys) ++ t) (h 0) (k 0) moved in
    let inner = behind_byte (x == 10) x y xs ys s t refl (ap (λ z. z == 10) (sym front.0)) (IsBytes-rest x xs h) (IsBytes-rest y ys k) front.1 in
    let rest = lines_front xs ys s t (IsBytes-rest x xs h) (IsBytes-rest y ys k) end_s end_t inner in
    (λ i. front.0 i ∷ rest.0 i, rest.1)
