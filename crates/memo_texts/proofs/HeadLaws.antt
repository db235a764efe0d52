-- Head lines are told apart.
use Rattle.std.proofs.lemmas.Bool.{and_parts}
use Rattle.std.proofs.lemmas.Bool.Decides.{nat_tests}
use Rattle.std.proofs.lemmas.Str.{encode_ascii}
use Rattle.std.proofs.lemmas.List.{append_cancel_left}
use Rattle.std.proofs.Math.Nat.{mod-lt}
use Rattle.std.proofs.Math.Utf8.{encode}
use Rattle.std.proofs.Common.{arith, ◌≡◌, ◌<◌, ◌++◌, ◌∷◌, [], ◌/◌, ◌%◌, ◌∙◌, ◌==◌, ◌&&◌, not, ap, refl, sym, subst, ℕ, zero, suc, Bool, true, false, List, append_assoc, get_or, length}
use Rattle.std.specs.Prelude.{codes, nat_lt, if◌then◌else◌}
use Rattle.std.specs.Int.{bytes_high_first}
use Rattle.hex.specs.Hex.{decode_of, encode_lower, lower_digits}
use Rattle.hex.proofs.HexLemmas.{decode_of-encode_lower, length-encode_with}
use Rattle.palm_records.specs.Characters.{char_of}
use Rattle.palm_records.proofs.CharacterLaws.{append_parts, byte_of, code_of, every, every_at, first-append, is_told, place_in, text_front}
use Rattle.memo_texts.specs.ExportHeads.{begins_with, head_line, id_text, is_doubtful, label_char_text, label_chars, label_text, mark}
use Rattle.memo_texts.specs.Memos.{IsBytes}

-- ---- words

-- printable ASCII
unfoldable pub is_plain : List ℕ → Bool
is_plain [] = true
is_plain (c ∷ cs) = (nat_lt 31 c && nat_lt c 127) && is_plain cs

pub IsBytes-rest : (byte : ℕ) (bytes : List ℕ) → IsBytes (byte ∷ bytes) → IsBytes bytes
IsBytes-rest byte bytes h i = h (suc i)

pub char_of-plain : (c : ℕ) → 31 < c → c < 127 → char_of c ≡ c
unfolding char_of
char_of-plain c low high = grind (arith, nat_tests)

pub begins_with-cons : (c : ℕ) (word bytes : List ℕ) → begins_with word bytes ≡ true → begins_with (c ∷ word) (c ∷ bytes) ≡ true
begins_with-cons c word bytes e = grind (arith, nat_tests)

-- ---- the characters of a label

pub label_char-plain : (c : ℕ) → 31 < c → c < 127 → label_char_text c ≡ c ∷ []
label_char-plain c low high =
    let other : (c == 10) ≡ false = grind (arith, nat_tests) in
    rw (other, char_of-plain c low high) (encode_ascii c (omega arith))

labels_told : every (is_told label_char_text) 256 ≡ true
unfolding every is_told code_of byte_of char_of place_in encode
labels_told = refl

label_feeds : every (λ b. not (get_or (label_char_text b) 0 0 == 10) && nat_lt 0 (length (label_char_text b))) 256 ≡ true
unfolding every char_of encode
label_feeds = refl

-- no character of a label begins with a line feed
no_feed : (y : ℕ) (r s : List ℕ) → y < 256 → 10 ∷ s ≡ label_char_text y ++ r → ⊥
no_feed y r s small e =
    let of_y = every_at (λ b. not (get_or (label_char_text b) 0 0 == 10) && nat_lt 0 (length (label_char_text b))) 256 y label_feeds small in
    let parts = and_parts (not (get_or (label_char_text y) 0 0 == 10)) (nat_lt 0 (length (label_char_text y))) of_y in
    let some : 0 < length (label_char_text y) = grind (arith, nat_tests, parts.1) in
    let first : 10 ≡ get_or (label_char_text y) 0 0 = ap (λ l. get_or l 0 0) e ∙ first-append (label_char_text y) r some in
    grind (arith, nat_tests, parts.0, first)

label_chars_front : (a b s t : List ℕ) → IsBytes a → IsBytes b → label_chars a ++ 10 ∷ s ≡ label_chars b ++ 10 ∷ t → (a ≡ b) × (s ≡ t)
label_chars_front [] [] s t h k e = (refl, cc)
label_chars_front [] (y ∷ ys) s t h k e =
    absurd (no_feed y (label_chars ys ++ 10 ∷ t) s (k 0) (e ∙ append_assoc (label_char_text y) (label_chars ys) (10 ∷ t)))
label_chars_front (x ∷ xs) [] s t h k e =
    absurd (no_feed x (label_chars xs ++ 10 ∷ s) t (h 0) (sym e ∙ append_assoc (label_char_text x) (label_chars xs) (10 ∷ s)))
label_chars_front (x ∷ xs) (y ∷ ys) s t h k e =
    let moved = sym (append_assoc (label_char_text x) (label_chars xs) (10 ∷ s)) ∙ (e ∙ append_assoc (label_char_text y) (label_chars ys) (10 ∷ t)) in
    let parts = text_front label_char_text x y (label_chars xs ++ 10 ∷ s) (label_chars ys ++ 10 ∷ t) labels_told (h 0) (k 0) moved in
    let rest = label_chars_front xs ys s t (IsBytes-rest x xs h) (IsBytes-rest y ys k) parts.1 in
    (λ i. parts.0 i ∷ rest.0 i, rest.1)

-- a label whose text begins with a word begins with it
label_word : (word label s z : List ℕ) → is_plain word ≡ true → IsBytes label → label_chars label ++ 10 ∷ s ≡ word ++ z → begins_with word label ≡ true
unfolding is_plain
label_word [] label s z plain h e = refl
label_word (c ∷ cs) [] s z plain h e =
    let parts = and_parts (nat_lt 31 c && nat_lt c 127) (is_plain cs) plain in
    let first : 10 ≡ c = ap (λ l. get_or l 0 0) e in
    absurd (grind (arith, nat_tests, parts.0, first))
label_word (c ∷ cs) (x ∷ xs) s z plain h e =
    let parts = and_parts (nat_lt 31 c && nat_lt c 127) (is_plain cs) plain in
    let low : 31 < c = grind (arith, nat_tests, parts.0) in
    let high : c < 127 = grind (arith, nat_tests, parts.0) in
    let own : c ∷ (cs ++ z) ≡ label_char_text c ++ (cs ++ z) = ap (λ l. l ++ (cs ++ z)) (sym (label_char-plain c low high)) in
    let moved = sym (append_assoc (label_char_text x) (label_chars xs) (10 ∷ s)) ∙ (e ∙ own) in
    let front = text_front label_char_text x c (label_chars xs ++ 10 ∷ s) (cs ++ z) labels_told (h 0) (omega (arith, high)) moved in
    let rest = label_word cs xs s z parts.1 (IsBytes-rest x xs h) front.1 in
    subst (λ (y : ℕ). begins_with (c ∷ cs) (y ∷ xs) ≡ true) (sym front.0) (begins_with-cons c cs xs rest)

-- ---- the mark and the label

-- what stands in front of a label without the mark
spaces : Bool → List ℕ
spaces doubtful = if doubtful then codes "  " else codes " "

not_a_word : (word label s z : List ℕ) → is_plain word ≡ true → (begins_with word label ≡ true → is_doubtful label ≡ true) → is_doubtful label ≡ false → IsBytes label
    → label_chars label ++ 10 ∷ s ≡ word ++ z → ⊥
not_a_word word label s z plain makes is h e = grind (arith, makes (label_word word label s z plain h e), is)

unmarked_front : (p q : Bool) (a b s t : List ℕ) → is_doubtful a ≡ p → is_doubtful b ≡ q → IsBytes a → IsBytes b
    → spaces p ++ (label_chars a ++ 10 ∷ s) ≡ spaces q ++ (label_chars b ++ 10 ∷ t) → (a ≡ b) × (s ≡ t)
unfolding spaces is_plain
unmarked_front true true a b s t is_a is_b h k e = label_chars_front a b s t h k cc
unmarked_front false false a b s t is_a is_b h k e = label_chars_front a b s t h k cc
unmarked_front true false a b s t is_a is_b h k e =
    absurd (not_a_word (codes " ") b t (label_chars a ++ 10 ∷ s) refl (λ w. grind (arith, w)) is_b k cc)
unmarked_front false true a b s t is_a is_b h k e =
    absurd (not_a_word (codes " ") a s (label_chars b ++ 10 ∷ t) refl (λ w. grind (arith, w)) is_a h cc)

-- no label without the mark is read as one with it
mark_told : (q : Bool) (b s t : List ℕ) → is_doubtful b ≡ q → IsBytes b → codes " private" ++ s ≡ spaces q ++ (label_chars b ++ 10 ∷ t) → ⊥
unfolding spaces is_plain
mark_told true b s t is k e = grind arith
mark_told false b s t is k e = not_a_word (codes "private") b t s refl (λ w. grind (arith, w)) is k cc

-- the label's text is its characters behind the gap
unmarked-cons : (x : ℕ) (xs s : List ℕ) → label_text false (x ∷ xs) ++ 10 ∷ s ≡ spaces (is_doubtful (x ∷ xs)) ++ (label_chars (x ∷ xs) ++ 10 ∷ s)
unfolding spaces
unmarked-cons x xs s =
    let other : (length (x ∷ xs) == 0) ≡ false = grind (arith, nat_tests) in
    rw other (append_assoc (spaces (is_doubtful (x ∷ xs))) (label_chars (x ∷ xs)) (10 ∷ s))

marked-cons : (x : ℕ) (xs s : List ℕ) → label_text true (x ∷ xs) ++ 10 ∷ s ≡ 32 ∷ (label_chars (x ∷ xs) ++ 10 ∷ s)
marked-cons x xs s =
    let other : (length (x ∷ xs) == 0) ≡ false = grind (arith, nat_tests) in
    rw other refl

no_space : (q : Bool) (r s : List ℕ) → 10 ∷ s ≡ spaces q ++ r → ⊥
unfolding spaces
no_space true r s e = grind arith
no_space false r s e = grind arith

marked_front : (a b s t : List ℕ) → IsBytes a → IsBytes b → label_text true a ++ 10 ∷ s ≡ label_text true b ++ 10 ∷ t → (a ≡ b) × (s ≡ t)
marked_front [] [] s t h k e = (refl, cc)
marked_front [] (y ∷ ys) s t h k e = absurd (grind (arith, e ∙ marked-cons y ys t))
marked_front (x ∷ xs) [] s t h k e = absurd (grind (arith, sym e ∙ marked-cons x xs s))
marked_front (x ∷ xs) (y ∷ ys) s t h k e =
    let both = sym (marked-cons x xs s) ∙ (e ∙ marked-cons y ys t) in
    label_chars_front (x ∷ xs) (y ∷ ys) s t h k (cc both)

tail_front : (p q : Bool) (a b s t : List ℕ) → IsBytes a → IsBytes b → mark p ++ (label_text p a ++ 10 ∷ s) ≡ mark q ++ (label_text q b ++ 10 ∷ t)
    → (p ≡ q) × (a ≡ b) × (s ≡ t)
tail_front true true a b s t h k e =
    let rest = marked_front a b s t h k (append_cancel_left (codes " private") (label_text true a ++ 10 ∷ s) (label_text true b ++ 10 ∷ t) e) in
    (refl, rest.0, rest.1)
tail_front true false a [] s t h k e = absurd (grind arith)
tail_front true false a (y ∷ ys) s t h k e = absurd (mark_told (is_doubtful (y ∷ ys)) (y ∷ ys) (label_text true a ++ 10 ∷ s) t refl k (e ∙ unmarked-cons y ys t))
tail_front false true [] b s t h k e = absurd (grind arith)
tail_front false true (x ∷ xs) b s t h k e =
    absurd (mark_told (is_doubtful (x ∷ xs)) (x ∷ xs) (label_text true b ++ 10 ∷ t) s refl h (sym e ∙ unmarked-cons x xs s))
tail_front false false [] [] s t h k e = (refl, refl, cc)
tail_front false false [] (y ∷ ys) s t h k e = absurd (no_space (is_doubtful (y ∷ ys)) (label_chars (y ∷ ys) ++ 10 ∷ t) s (e ∙ unmarked-cons y ys t))
tail_front false false (x ∷ xs) [] s t h k e = absurd (no_space (is_doubtful (x ∷ xs)) (label_chars (x ∷ xs) ++ 10 ∷ s) t (sym e ∙ unmarked-cons x xs s))
tail_front false false (x ∷ xs) (y ∷ ys) s t h k e =
    let both = sym (unmarked-cons x xs s) ∙ (e ∙ unmarked-cons y ys t) in
    let rest = unmarked_front (is_doubtful (x ∷ xs)) (is_doubtful (y ∷ ys)) (x ∷ xs) (y ∷ ys) s t refl refl h k both in
    (refl, rest.0, rest.1)

-- ---- ids

small_bytes : (n : ℕ) → IsBytes (bytes_high_first 3 n)
small_bytes n zero = mod-lt (n / 65536) (omega arith)
small_bytes n (suc zero) = mod-lt (n / 256) (omega arith)
small_bytes n (suc (suc zero)) = mod-lt n (omega arith)
small_bytes n (suc (suc (suc i))) = omega arith

same_number : (i j : ℕ) → i < 0x1000000 → j < 0x1000000 → bytes_high_first 3 i ≡ bytes_high_first 3 j → i ≡ j
same_number i j small_i small_j e =
    let high : i / 65536 % 256 ≡ j / 65536 % 256 = ap (λ l. get_or l 0 0) e in
    let middle : i / 256 % 256 ≡ j / 256 % 256 = ap (λ l. get_or l 1 0) e in
    let low : i % 256 ≡ j % 256 = ap (λ l. get_or l 2 0) e in
    omega arith

id_front : (i j : ℕ) (s t : List ℕ) → i < 0x1000000 → j < 0x1000000 → id_text i ++ s ≡ id_text j ++ t → (i ≡ j) × (s ≡ t)
id_front i j s t small_i small_j e =
    let size_i = length-encode_with lower_digits (bytes_high_first 3 i) in
    let size_j = length-encode_with lower_digits (bytes_high_first 3 j) in
    let parts = append_parts (id_text i) (id_text j) s t (omega (arith, size_i, size_j)) e in
    let digits = append_cancel_left (codes "--- ") (encode_lower (bytes_high_first 3 i)) (encode_lower (bytes_high_first 3 j)) parts.0 in
    let read = sym (decode_of-encode_lower (bytes_high_first 3 i) (small_bytes i)) ∙ (ap decode_of digits ∙ decode_of-encode_lower (bytes_high_first 3 j) (small_bytes j)) in
    (same_number i j small_i small_j (cc read), parts.1)

-- ---- the line

head_parts : (id : ℕ) (secret : Bool) (label s : List ℕ) → head_line id secret label ++ s ≡ id_text id ++ (mark secret ++ (label_text secret label ++ 10 ∷ s))
head_parts id secret label s =
    append_assoc (id_text id) (mark secret ++ (label_text secret label ++ 10 ∷ [])) s
    ∙ ap (λ l. id_text id ++ l) (append_assoc (mark secret) (label_text secret label ++ 10 ∷ []) s
    ∙ ap (λ l. mark secret ++ l) (append_assoc (label_text secret label) (10 ∷ []) s))

pub head_front : (i j : ℕ) (p q : Bool) (a b s t : List ℕ) → i < 0x1000000 → j < 0x1000000 → IsBytes a → IsBytes b
    → head_line i p a ++ s ≡ head_line j q b ++ t → (i ≡ j) × (p ≡ q) × (a ≡ b) × (s ≡ t)
head_front i j p q a b s t small_i small_j h k e =
    let moved = sym (head_parts i p a s) ∙ (e ∙ head_parts j q b t) in
    let ids = id_front i j (mark p ++ (label_text p a ++ 10 ∷ s)) (mark q ++ (label_text q b ++ 10 ∷ t)) small_i small_j moved in
    let tails = tail_front p q a b s t h k ids.1 in
    (ids.0, tails.0, tails.1, tails.2)
