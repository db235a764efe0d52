-- Heads that are written are read again.
use Rattle.std.proofs.lemmas.Bool.{and_parts}
use Rattle.std.proofs.lemmas.Bool.Decides.{nat_tests}
use Rattle.std.proofs.lemmas.Slice.Eq.{bytes_eq-Decides}
use Rattle.std.proofs.Math.Nat.{mod-lt}
use Rattle.std.proofs.Common.{arith, ◌≡◌, ◌<◌, ◌≤◌, ◌++◌, ◌∷◌, [], ◌∙◌, ◌+◌, ◌*◌, ◌/◌, ◌%◌, ◌==◌, ◌&&◌, ◌||◌, not, ap, refl, sym, ℕ, zero, suc, Bool, true, false, List, cond, append_assoc, get_or, length, Some}
use Rattle.std.specs.Prelude.{codes, nat_lt, if◌then◌else◌}
use Rattle.std.specs.Int.{bytes_high_first}
use Rattle.std.specs.Option.{option_and_then, option_map}
use Rattle.std.specs.Result.{result_ok}
use Rattle.hex.specs.Hex.{IsBytes, encode_lower, encode_with, lower_digits}
use Rattle.hex.proofs.HexLemmas.{decode_sized-encode_lower}
use Rattle.palm_records.proofs.CharacterLaws.{every, every_at}
use Rattle.memo_texts.specs.ExportHeads.{begins_with, gap, head_line, id_text, is_doubtful, label_chars, label_text, mark}
use Rattle.memo_texts.proofs.HeadLaws.{is_plain}
use Rattle.memo_texts.specs.Heads.{new_memo, head_of, id_of, id_of_bytes, marked_label, tail_of}
use Rattle.memo_texts.specs.Lines.{lines_in}
use Rattle.memo_texts.specs.Readings.{ReadingValue, memos_from, with_bytes, with_memo}
use Rattle.memo_texts.proofs.ReadingLaws.{memos_from-line}
use Rattle.memo_texts.proofs.ShownLaws.{is_read, is_read-append, is_read-plain, label_chars-append, label_chars-plain, label_chars_inner, lines_in-inner, with_line-label_chars}

-- ---- digits

abbrev is_digit : ℕ → Bool
is_digit c = (nat_lt 31 c && nat_lt c 127) && not (110 == c)

digits_told : every (λ k. is_digit (get_or lower_digits k 0)) 16 ≡ true
unfolding every
digits_told = refl

digit_at : (k : ℕ) → k < 16 → is_digit (get_or lower_digits k 0) ≡ true
digit_at k small = every_at (λ j. is_digit (get_or lower_digits j 0)) 16 k digits_told small

plain_at : (k : ℕ) → k < 16 → nat_lt 31 (get_or lower_digits k 0) && nat_lt (get_or lower_digits k 0) 127 ≡ true
plain_at k small =
    let c = get_or lower_digits k 0 in
    (and_parts (nat_lt 31 c && nat_lt c 127) (not (110 == c)) (digit_at k small)).0

not_n : (k : ℕ) → k < 16 → (110 == get_or lower_digits k 0) ≡ false
not_n k small =
    let c = get_or lower_digits k 0 in
    let told = (and_parts (nat_lt 31 c && nat_lt c 127) (not (110 == c)) (digit_at k small)).1 in
    grind (arith, nat_tests, told)

small_bytes : (n : ℕ) → IsBytes (bytes_high_first 3 n)
small_bytes n zero = mod-lt (n / 65536) (omega arith)
small_bytes n (suc zero) = mod-lt (n / 256) (omega arith)
small_bytes n (suc (suc zero)) = mod-lt n (omega arith)
small_bytes n (suc (suc (suc i))) = omega arith

digits_plain : (bytes : List ℕ) → IsBytes bytes → is_plain (encode_lower bytes) ≡ true
unfolding encode_with is_plain
digits_plain [] h = refl
digits_plain (b ∷ bs) h =
    let own : b < 256 = h 0 in
    rw (plain_at (b / 16) (omega arith), plain_at (b % 16) (omega arith)) (digits_plain bs (λ i. h (suc i)))

id_of-digits : (id : ℕ) → id < 0x1000000 → id_of (encode_lower (bytes_high_first 3 id)) ≡ Some id
id_of-digits id small =
    let bytes = bytes_high_first 3 id in
    let digits = encode_lower bytes in
    let read = decode_sized-encode_lower bytes 3 refl (small_bytes id) in
    let same = (bytes_eq-Decides digits digits).1 refl in
    let number : id / 65536 % 256 * 65536 + id / 256 % 256 * 256 + id % 256 ≡ id = omega arith in
    ap (λ r. option_and_then (id_of_bytes digits) (result_ok r)) read ∙ rw same (ap Some number)

-- ---- what stands behind the id

-- the bytes that are shown behind the mark
abbrev pub shown_tail : Bool → List ℕ → List ℕ
shown_tail secret label = if length label == 0 then [] else gap secret label ++ label

shown_tail-cons : (secret : Bool) (x : ℕ) (xs : List ℕ) → shown_tail secret (x ∷ xs) ≡ gap secret (x ∷ xs) ++ (x ∷ xs)
shown_tail-cons secret x xs =
    let other : (length (x ∷ xs) == 0) ≡ false = grind (arith, nat_tests) in
    rw other refl

label_text-cons : (secret : Bool) (x : ℕ) (xs : List ℕ) → label_text secret (x ∷ xs) ≡ gap secret (x ∷ xs) ++ label_chars (x ∷ xs)
label_text-cons secret x xs =
    let other : (length (x ∷ xs) == 0) ≡ false = grind (arith, nat_tests) in
    rw other refl

marked_label-cons : (x : ℕ) (xs : List ℕ) → marked_label (32 ∷ x ∷ xs) ≡ Some (x ∷ xs)
marked_label-cons x xs =
    let some : (length (32 ∷ x ∷ xs) == 0) ≡ false = grind (arith, nat_tests) in
    let long : nat_lt 1 (length (32 ∷ x ∷ xs)) ≡ true = grind (arith, nat_tests) in
    rw (some, long) refl

or_false : (a b : Bool) → a || b ≡ false → (a ≡ false) × (b ≡ false)
or_false true b e = cc
or_false false b e = (refl, e)

by_doubt : (q : Bool) (x : ℕ) (xs : List ℕ) → is_doubtful (x ∷ xs) ≡ q → tail_of (cond q (codes "  ") (codes " ") ++ (x ∷ xs)) ≡ Some (false, x ∷ xs)
by_doubt true x xs is = rw is refl
by_doubt false x xs is =
    let parts = or_false (begins_with (codes " ") (x ∷ xs)) (begins_with (codes "private") (x ∷ xs)) is in
    rw (parts.1, parts.0, marked_label-cons x xs) refl

tail_of-shown : (secret : Bool) (label : List ℕ) → tail_of (mark secret ++ shown_tail secret label) ≡ Some (secret, label)
tail_of-shown true [] = refl
tail_of-shown true (x ∷ xs) = rw (shown_tail-cons true x xs, marked_label-cons x xs) refl
tail_of-shown false [] = refl
tail_of-shown false (x ∷ xs) = rw (shown_tail-cons false x xs) (by_doubt (is_doubtful (x ∷ xs)) x xs refl)

-- ---- the head

-- the bytes that a head shows
abbrev pub head_bytes : ℕ → Bool → List ℕ → List ℕ
head_bytes id secret label = id_text id ++ (mark secret ++ shown_tail secret label)

head_of-digits : (a b c d e f : ℕ) (rest : List ℕ) → (110 == a) ≡ false
    → head_of (45 ∷ 45 ∷ 45 ∷ 32 ∷ a ∷ b ∷ c ∷ d ∷ e ∷ f ∷ rest) ≡ new_memo (id_of (a ∷ b ∷ c ∷ d ∷ e ∷ f ∷ [])) (tail_of rest)
unfolding head_of
head_of-digits a b c d e f rest other = rw other refl

new_memo-some : (id : ℕ) (secret : Bool) (label : List ℕ) → length label ≤ 15
    → new_memo (Some id) (Some (secret, label)) ≡ Some (record { id = id; secret = secret; label = label; text = [] })
new_memo-some id secret label short =
    let fits : nat_lt 15 (length label) ≡ false = grind (arith, nat_tests) in
    rw fits refl

head_of-bytes : (id : ℕ) (secret : Bool) (label : List ℕ) → id < 0x1000000 → length label ≤ 15
    → head_of (head_bytes id secret label) ≡ Some (record { id = id; secret = secret; label = label; text = [] })
unfolding encode_with
head_of-bytes id secret label small short =
    let read = id_of-digits id small in
    let high : id / 65536 % 256 / 16 < 16 = omega arith in
    head_of-digits _ _ _ _ _ _ (mark secret ++ shown_tail secret label) (not_n (id / 65536 % 256 / 16) high)
    ∙ (ap (λ i. new_memo i (tail_of (mark secret ++ shown_tail secret label))) read
    ∙ (ap (new_memo (Some id)) (tail_of-shown secret label) ∙ new_memo-some id secret label short))

mark_plain : (secret : Bool) → is_plain (mark secret) ≡ true
unfolding is_plain
mark_plain true = refl
mark_plain false = refl

spaces_plain : (q : Bool) → is_plain (cond q (codes "  ") (codes " ")) ≡ true
unfolding is_plain
spaces_plain true = refl
spaces_plain false = refl

gap_plain : (secret : Bool) (label : List ℕ) → is_plain (gap secret label) ≡ true
gap_plain secret label = spaces_plain (not secret && is_doubtful label)

id_plain : (id : ℕ) → is_plain (id_text id) ≡ true
unfolding is_plain
id_plain id = digits_plain (bytes_high_first 3 id) (small_bytes id)

tail_read : (secret : Bool) (label : List ℕ) → is_read label ≡ true → is_read (shown_tail secret label) ≡ true
tail_read secret [] p = p
tail_read secret (x ∷ xs) p =
    rw (shown_tail-cons secret x xs) (is_read-append (gap secret (x ∷ xs)) (x ∷ xs) (is_read-plain (gap secret (x ∷ xs)) (gap_plain secret (x ∷ xs))) p)

head_read : (id : ℕ) (secret : Bool) (label : List ℕ) → is_read label ≡ true → is_read (head_bytes id secret label) ≡ true
head_read id secret label p =
    is_read-append (id_text id) (mark secret ++ shown_tail secret label) (is_read-plain (id_text id) (id_plain id))
    (is_read-append (mark secret) (shown_tail secret label) (is_read-plain (mark secret) (mark_plain secret)) (tail_read secret label p))

tail_shown : (secret : Bool) (label : List ℕ) → label_chars (shown_tail secret label) ≡ label_text secret label
tail_shown secret [] = refl
tail_shown secret (x ∷ xs) =
    ap label_chars (shown_tail-cons secret x xs)
    ∙ (label_chars-append (gap secret (x ∷ xs)) (x ∷ xs)
    ∙ (ap (λ l. l ++ label_chars (x ∷ xs)) (label_chars-plain (gap secret (x ∷ xs)) (gap_plain secret (x ∷ xs))) ∙ sym (label_text-cons secret x xs)))

plain_front : (word rest : List ℕ) → is_plain word ≡ true → label_chars (word ++ rest) ≡ word ++ label_chars rest
plain_front word rest p = label_chars-append word rest ∙ ap (λ l. l ++ label_chars rest) (label_chars-plain word p)

head_shown : (id : ℕ) (secret : Bool) (label : List ℕ) → label_chars (head_bytes id secret label) ≡ id_text id ++ (mark secret ++ label_text secret label)
head_shown id secret label =
    plain_front (id_text id) (mark secret ++ shown_tail secret label) (id_plain id)
    ∙ ap (λ l. id_text id ++ l) (plain_front (mark secret) (shown_tail secret label) (mark_plain secret) ∙ ap (λ l. mark secret ++ l) (tail_shown secret label))

head_line-shown : (id : ℕ) (secret : Bool) (label s : List ℕ) → head_line id secret label ++ s ≡ label_chars (head_bytes id secret label) ++ 10 ∷ s
head_line-shown id secret label s =
    append_assoc (id_text id) (mark secret ++ (label_text secret label ++ 10 ∷ [])) s
    ∙ (ap (λ l. id_text id ++ l) (append_assoc (mark secret) (label_text secret label ++ 10 ∷ []) s
    ∙ (ap (λ l. mark secret ++ l) (append_assoc (label_text secret label) (10 ∷ []) s) ∙ sym (append_assoc (mark secret) (label_text secret label) (10 ∷ s))))
    ∙ (sym (append_assoc (id_text id) (mark secret ++ label_text secret label) (10 ∷ s)) ∙ ap (λ l. l ++ 10 ∷ s) (sym (head_shown id secret label))))

with_bytes-head : (reading : ReadingValue) (id : ℕ) (secret : Bool) (label : List ℕ) → id < 0x1000000 → length label ≤ 15
    → with_bytes reading (head_bytes id secret label) ≡ Some (with_memo reading (record { id = id; secret = secret; label = label; text = [] }))
with_bytes-head reading id secret label small short = ap (option_map (with_memo reading)) (head_of-bytes id secret label small short)

-- a head begins its memo
pub read_head : (number : ℕ) (reading : ReadingValue) (id : ℕ) (secret : Bool) (label s : List ℕ) → id < 0x1000000 → length label ≤ 15 → is_read label ≡ true
    → memos_from number reading (lines_in (head_line id secret label ++ s))
    ≡ memos_from (number + 1) (with_memo reading (record { id = id; secret = secret; label = label; text = [] })) (lines_in s)
read_head number reading id secret label s small short p =
    let bytes = head_bytes id secret label in
    let good = head_read id secret label p in
    ap (λ l. memos_from number reading (lines_in l)) (head_line-shown id secret label s)
    ∙ (ap (memos_from number reading) (lines_in-inner (label_chars bytes) s (label_chars_inner bytes good))
    ∙ memos_from-line number reading _ (label_chars bytes) (lines_in s)
    (with_line-label_chars reading bytes good ∙ with_bytes-head reading id secret label small short))
