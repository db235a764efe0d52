-- The lines of a memo are read as its text.
use Rattle.std.proofs.lemmas.Bool.{and_parts}
use Rattle.std.proofs.lemmas.Bool.Decides.{nat_tests}
use Rattle.std.proofs.lemmas.List.{length-append}
use Rattle.std.proofs.Math.Utf8.{encode}
use Rattle.std.proofs.Common.{arith, ◌≡◌, ◌≤◌, ◌++◌, ◌∷◌, [], ◌∙◌, ◌+◌, ◌==◌, ◌&&◌, not, ap, refl, sym, subst, ℕ, Bool, true, false, List, cond, append_assoc, append-nil, length, Some}
use Rattle.std.specs.Prelude.{codes, nat_lt}
use Rattle.std.specs.List.{join_with_byte}
use Rattle.palm_records.specs.Characters.{char_of, char_text}
use Rattle.memo_texts.specs.ExportHeads.{begins_with, label_chars}
use Rattle.memo_texts.specs.Memos.{MemoValue, guard, lines_from, memo_lines}
use Rattle.memo_texts.proofs.HeadLaws.{is_plain}
use Rattle.memo_texts.specs.Lines.{lines_in}
use Rattle.memo_texts.specs.Readings.{ReadingValue, memos_from, with_bytes, with_text}
use Rattle.memo_texts.proofs.ReadingLaws.{memos_from-line}
use Rattle.memo_texts.proofs.ShownLaws.{is_read, is_read-append, is_read-plain, label_chars-append, label_chars-plain, label_chars_inner, lines_in-inner, with_line-label_chars}
use Rattle.memo_texts.proofs.ExportLineLaws.{dashes}

-- ---- parts without a line feed

unfoldable pub has_no_feed : List ℕ → Bool
has_no_feed [] = true
has_no_feed (b ∷ bs) = not (b == 10) && has_no_feed bs

lines_from-feed : (rest : List ℕ) → lines_from (10 ∷ rest) ≡ 10 ∷ memo_lines rest
unfolding lines_from char_of encode
lines_from-feed rest = refl

lines_from-nil : lines_from [] ≡ 10 ∷ []
unfolding lines_from
lines_from-nil = refl

lines_from-cons : (b : ℕ) (bs : List ℕ) → (b == 10) ≡ false → lines_from (b ∷ bs) ≡ label_chars (b ∷ []) ++ lines_from bs
unfolding lines_from
lines_from-cons b bs other = rw other (rw (append-nil (char_text b)) refl)

-- the last part
lines_from-last : (part : List ℕ) → has_no_feed part ≡ true → lines_from part ≡ label_chars part ++ 10 ∷ []
unfolding has_no_feed
lines_from-last [] p = lines_from-nil
lines_from-last (b ∷ bs) p =
    let parts = and_parts (not (b == 10)) (has_no_feed bs) p in
    let other : (b == 10) ≡ false = grind (arith, nat_tests, parts.0) in
    lines_from-cons b bs other ∙ (ap (λ l. label_chars (b ∷ []) ++ l) (lines_from-last bs parts.1)
    ∙ (sym (append_assoc (label_chars (b ∷ [])) (label_chars bs) (10 ∷ [])) ∙ ap (λ l. l ++ 10 ∷ []) (sym (label_chars-append (b ∷ []) bs))))

-- another part
lines_from-part : (part rest : List ℕ) → has_no_feed part ≡ true → lines_from (part ++ 10 ∷ rest) ≡ label_chars part ++ 10 ∷ memo_lines rest
unfolding has_no_feed
lines_from-part [] rest p = lines_from-feed rest
lines_from-part (b ∷ bs) rest p =
    let parts = and_parts (not (b == 10)) (has_no_feed bs) p in
    let other : (b == 10) ≡ false = grind (arith, nat_tests, parts.0) in
    lines_from-cons b (bs ++ 10 ∷ rest) other ∙ (ap (λ l. label_chars (b ∷ []) ++ l) (lines_from-part bs rest parts.1)
    ∙ (sym (append_assoc (label_chars (b ∷ [])) (label_chars bs) (10 ∷ memo_lines rest)) ∙ ap (λ l. l ++ 10 ∷ memo_lines rest) (sym (label_chars-append (b ∷ []) bs))))

-- what stands in front of a line is told by the line
begins-part : (part rest : List ℕ) → begins_with dashes (part ++ 10 ∷ rest) ≡ begins_with dashes part
begins-part [] rest = refl
begins-part (a ∷ []) rest = refl
begins-part (a ∷ b ∷ []) rest = refl
begins-part (a ∷ b ∷ c ∷ more) rest = refl

guard-part : (part rest : List ℕ) → guard (part ++ 10 ∷ rest) ≡ guard part
guard-part part rest = rw (begins-part part rest) refl

guard_plain : (b : Bool) → is_plain (cond b (codes "-") []) ≡ true
unfolding is_plain
guard_plain true = refl
guard_plain false = refl

-- a line with what stands in front of it, as characters
shown_line : (part : List ℕ) → label_chars (guard part ++ part) ≡ guard part ++ label_chars part
shown_line part =
    label_chars-append (guard part) part ∙ ap (λ l. l ++ label_chars part) (label_chars-plain (guard part) (guard_plain (begins_with dashes part)))

last_line : (part s : List ℕ) → has_no_feed part ≡ true → memo_lines part ++ s ≡ label_chars (guard part ++ part) ++ 10 ∷ s
last_line part s p =
    rw (lines_from-last part p, shown_line part)
    (append_assoc (guard part) (label_chars part ++ 10 ∷ []) s
    ∙ (ap (λ l. guard part ++ l) (append_assoc (label_chars part) (10 ∷ []) s) ∙ sym (append_assoc (guard part) (label_chars part) (10 ∷ s))))

first_line : (part rest s : List ℕ) → has_no_feed part ≡ true
    → memo_lines (part ++ 10 ∷ rest) ++ s ≡ label_chars (guard part ++ part) ++ 10 ∷ (memo_lines rest ++ s)
first_line part rest s p =
    ap (λ l. (l ++ lines_from (part ++ 10 ∷ rest)) ++ s) (guard-part part rest)
    ∙ (ap (λ l. (guard part ++ l) ++ s) (lines_from-part part rest p)
    ∙ (append_assoc (guard part) (label_chars part ++ 10 ∷ memo_lines rest) s
    ∙ (ap (λ l. guard part ++ l) (append_assoc (label_chars part) (10 ∷ memo_lines rest) s)
    ∙ (sym (append_assoc (guard part) (label_chars part) (10 ∷ (memo_lines rest ++ s))) ∙ ap (λ l. l ++ 10 ∷ (memo_lines rest ++ s)) (sym (shown_line part))))))

-- ---- a line is none of a head, and its dash goes

four_three : (line : List ℕ) → begins_with dashes line ≡ false → begins_with (codes "----") line ≡ false
four_three [] p = refl
four_three (a ∷ []) p = grind (arith, nat_tests)
four_three (a ∷ b ∷ []) p = grind (arith, nat_tests)
four_three (a ∷ b ∷ c ∷ []) p = grind (arith, nat_tests)
four_three (a ∷ b ∷ c ∷ d ∷ rest) p = grind (arith, nat_tests)

three_four : (line : List ℕ) → begins_with dashes line ≡ true → begins_with (codes "----") (45 ∷ line) ≡ true
three_four line p = p

more_three : (line : List ℕ) → begins_with dashes line ≡ true → begins_with dashes (45 ∷ line) ≡ true
more_three [] p = p
more_three (a ∷ []) p = grind (arith, nat_tests)
more_three (a ∷ b ∷ rest) p = grind (arith, nat_tests)

by_dashes : (b : Bool) (reading : ReadingValue) (part : List ℕ) → begins_with dashes part ≡ b
    → with_bytes reading (cond b (codes "-") [] ++ part) ≡ with_text reading part
by_dashes true reading part is = rw (more_three part is, three_four part is) refl
by_dashes false reading part is = rw (is, four_three part is) refl

with_bytes-guard : (reading : ReadingValue) (part : List ℕ) → with_bytes reading (guard part ++ part) ≡ with_text reading part
with_bytes-guard reading part = by_dashes (begins_with dashes part) reading part refl

guard_read : (part : List ℕ) → is_read part ≡ true → is_read (guard part ++ part) ≡ true
guard_read part p = is_read-append (guard part) part (is_read-plain (guard part) (guard_plain (begins_with dashes part))) p

-- ---- one line behind the other

-- what was read, and a memo with these bytes
abbrev pub reading_of : List MemoValue → MemoValue → List ℕ → ReadingValue
reading_of done memo text = record { done = done; last = Some (record { id = memo.id; secret = memo.secret; label = memo.label; text = text }) }

with_text-room : (done : List MemoValue) (memo : MemoValue) (text part : List ℕ) → length (text ++ (part ++ 10 ∷ [])) ≤ 65500
    → with_text (reading_of done memo text) part ≡ Some (reading_of done memo (text ++ (part ++ 10 ∷ [])))
with_text-room done memo text part room =
    let fits : nat_lt 65500 (length (text ++ (part ++ 10 ∷ []))) ≡ false = grind (arith, nat_tests) in
    rw fits refl

read_line : (number : ℕ) (done : List MemoValue) (memo : MemoValue) (text part s : List ℕ) → is_read part ≡ true
    → length (text ++ (part ++ 10 ∷ [])) ≤ 65500
    → memos_from number (reading_of done memo text) (lines_in (label_chars (guard part ++ part) ++ 10 ∷ s))
    ≡ memos_from (number + 1) (reading_of done memo (text ++ (part ++ 10 ∷ []))) (lines_in s)
read_line number done memo text part s p room =
    let reading = reading_of done memo text in
    let line = guard part ++ part in
    let good = guard_read part p in
    let now = reading_of done memo (text ++ (part ++ 10 ∷ [])) in
    ap (memos_from number reading) (lines_in-inner (label_chars line) s (label_chars_inner line good))
    ∙ memos_from-line number reading now (label_chars line) (lines_in s)
    (with_line-label_chars reading line good ∙ (with_bytes-guard reading part ∙ with_text-room done memo text part room))

-- parts without a line feed, whose bytes are read
unfoldable pub are_parts : List (List ℕ) → Bool
are_parts [] = true
are_parts (part ∷ parts) = (has_no_feed part && is_read part) && are_parts parts

behind_join : (text part rest : List ℕ) → (text ++ (part ++ 10 ∷ [])) ++ (rest ++ 10 ∷ []) ≡ text ++ ((part ++ 10 ∷ rest) ++ 10 ∷ [])
behind_join text part rest =
    append_assoc text (part ++ 10 ∷ []) (rest ++ 10 ∷ [])
    ∙ ap (λ l. text ++ l) (append_assoc part (10 ∷ []) (rest ++ 10 ∷ []) ∙ sym (append_assoc part (10 ∷ rest) (10 ∷ [])))

front_short : (text part rest : List ℕ) → length (text ++ ((part ++ 10 ∷ rest) ++ 10 ∷ [])) ≤ 65500 → length (text ++ (part ++ 10 ∷ [])) ≤ 65500
front_short text part rest room =
    let whole = ap length (behind_join text part rest) in
    omega (arith, whole, room, length-append (text ++ (part ++ 10 ∷ [])) (rest ++ 10 ∷ []))

-- the lines of a memo give its text
pub read_parts : (number : ℕ) (done : List MemoValue) (memo : MemoValue) (text part : List ℕ) (parts : List (List ℕ)) (s : List ℕ) → are_parts (part ∷ parts) ≡ true
    → length (text ++ (join_with_byte 10 (part ∷ parts) ++ 10 ∷ [])) ≤ 65500
    → (k : ℕ) × (memos_from number (reading_of done memo text) (lines_in (memo_lines (join_with_byte 10 (part ∷ parts)) ++ s))
    ≡ memos_from k (reading_of done memo (text ++ (join_with_byte 10 (part ∷ parts) ++ 10 ∷ []))) (lines_in s))
unfolding are_parts
read_parts number done memo text part [] s p room =
    let own = and_parts (has_no_feed part) (is_read part) (and_parts (has_no_feed part && is_read part) true p).0 in (
      number + 1,
      ap (λ l. memos_from number (reading_of done memo text) (lines_in l)) (last_line part s own.0)
          ∙ read_line number done memo text part s own.1 room,
    )
read_parts number done memo text part (next ∷ parts) s p room =
    let both = and_parts (has_no_feed part && is_read part) (are_parts (next ∷ parts)) p in
    let own = and_parts (has_no_feed part) (is_read part) both.0 in
    let rest = join_with_byte 10 (next ∷ parts) in
    let longer_text = text ++ (part ++ 10 ∷ []) in
    let joined = behind_join text part rest in
    let behind = read_parts (number + 1) done memo longer_text next parts s both.1 (subst (λ (l : List ℕ). length l ≤ 65500) (sym joined) room) in (
      behind.0,
      ap (λ l. memos_from number (reading_of done memo text) (lines_in l)) (first_line part rest s own.0)
          ∙ (read_line number done memo text part (memo_lines rest ++ s) own.1 (front_short text part rest room)
          ∙ (behind.1 ∙ ap (λ l. memos_from behind.0 (reading_of done memo l) (lines_in s)) joined)),
    )
