-- The text of memos is read as these memos.
use Rattle.std.proofs.lemmas.Bool.{and_parts, eqb-true}
use Rattle.std.proofs.lemmas.Bool.Decides.{nat_tests}
use Rattle.std.proofs.lemmas.List.{length-append}
use Rattle.std.proofs.lemmas.List.Elements.{All-head, All-tail}
use Rattle.std.proofs.lemmas.List.Sums.{fails_before_first}
use Rattle.std.proofs.Math.Seq.{take-append_seam}
use Rattle.std.proofs.Common.{arith, ◌≡◌, ◌<◌, ◌≤◌, ◌++◌, ◌∷◌, [], ◌∙◌, ◌+◌, ◌-◌, ◌==◌, ◌&&◌, ap, refl, sym, subst, ℕ, suc, Bool, true, false, List, append_assoc, append-nil, get_or, length, take, None, Ok}
use Rattle.std.specs.Prelude.{All, nat_lt}
use Rattle.std.specs.List.{join_with_byte, position_or_len}
use Rattle.palm_records.specs.Strings.{first_zero}
use Rattle.memo_texts.specs.ExportHeads.{head_line}
use Rattle.memo_texts.specs.Memos.{IsBytes, MemoValue, memo_lines, memos_text}
use Rattle.memo_texts.specs.KeptMemos.{IsKept}
use Rattle.memo_texts.specs.Lines.{lines_in, without_mark}
use Rattle.memo_texts.specs.Readings.{ReadingValue, memos_from, memos_in, memos_of}
use Rattle.memo_texts.proofs.HeadReadLaws.{read_head}
use Rattle.memo_texts.proofs.LineLaws.{lines_in-nil}
use Rattle.memo_texts.proofs.PartLaws.{are_parts, has_no_feed, read_parts, reading_of}
use Rattle.memo_texts.proofs.ReadingLaws.{memos_from-nil}
use Rattle.memo_texts.proofs.ShownLaws.{is_read}

-- ---- bytes

is_read-at : (bytes : List ℕ) → ((i : ℕ) → i < length bytes → (get_or bytes i 0 == 0) ≡ false) → IsBytes bytes → is_read bytes ≡ true
unfolding is_read
is_read-at [] some small = refl
is_read-at (b ∷ bs) some small =
    let own : b < 256 = small 0 in
    let differs = some 0 (omega arith) in
    let first : nat_lt 0 b && nat_lt b 256 ≡ true = grind (arith, nat_tests, differs, own) in
    rw first (is_read-at bs (λ i below. some (suc i) (omega (arith, below))) (λ i. small (suc i)))

-- bytes without a zero byte
pub is_read-whole : (bytes : List ℕ) → first_zero bytes ≡ None → IsBytes bytes → is_read bytes ≡ true
is_read-whole bytes none small =
    let far : length bytes ≤ position_or_len (λ (b : ℕ). b == 0) bytes = grind (arith, nat_tests, none) in
    is_read-at bytes (λ i below. fails_before_first (λ (b : ℕ). b == 0) bytes i 0 (omega (arith, below, far))) small

-- ---- parts of a text

-- a text is such parts with a line feed between each two
record HasParts (text : List ℕ) : Type 0 where
  part : List ℕ
  parts : List (List ℕ)
  joined : join_with_byte 10 (part ∷ parts) ≡ text
  good : are_parts (part ∷ parts) ≡ true

join-onto : (b : ℕ) (part : List ℕ) (parts : List (List ℕ)) → join_with_byte 10 ((b ∷ part) ∷ parts) ≡ b ∷ join_with_byte 10 (part ∷ parts)
join-onto b part [] = refl
join-onto b part (next ∷ parts) = refl

more_parts : (t : Bool) (b : ℕ) (text : List ℕ) → (b == 10) ≡ t → nat_lt 0 b && nat_lt b 256 ≡ true → HasParts text → HasParts (b ∷ text)
unfolding are_parts has_no_feed is_read
more_parts true b text is good behind =
    let feed : b ≡ 10 = eqb-true b 10 is in
    record { part = []; parts = behind.part ∷ behind.parts; joined = ap (λ l. 10 ∷ l) behind.joined ∙ ap (λ (k : ℕ). k ∷ text) (sym feed); good = behind.good }
more_parts false b text is good behind = record {
  part = b ∷ behind.part;
  parts = behind.parts;
  joined = join-onto b behind.part behind.parts ∙ ap (λ l. b ∷ l) behind.joined;
  good = rw (is, good) behind.good;
}

parts_of : (text : List ℕ) → is_read text ≡ true → HasParts text
unfolding are_parts has_no_feed is_read
parts_of [] p = record { part = []; parts = []; joined = refl; good = refl }
parts_of (b ∷ bs) p =
    let own = and_parts (nat_lt 0 b && nat_lt b 256) (is_read bs) p in
    more_parts (b == 10) b bs refl own.0 (parts_of bs own.1)

-- ---- one memo

whole-feed : (text : List ℕ) → take (length (text ++ 10 ∷ []) - 1) (text ++ 10 ∷ []) ≡ text
whole-feed text =
    let size : length (text ++ 10 ∷ []) - 1 ≡ length text = omega (arith, length-append text (10 ∷ [])) in
    ap (λ n. take n (text ++ 10 ∷ [])) size ∙ take-append_seam text (10 ∷ [])

same_memo : (memo : MemoValue) (text : List ℕ) → text ≡ memo.text → (record { id = memo.id; secret = memo.secret; label = memo.label; text = text }) ≡ memo
same_memo memo text same = λ i. record { id = memo.id; secret = memo.secret; label = memo.label; text = same i }

memos_of-memo : (done : List MemoValue) (memo : MemoValue) → memos_of (reading_of done memo (memo.text ++ 10 ∷ [])) ≡ done ++ memo ∷ []
memos_of-memo done memo =
    ap (λ (m : MemoValue). done ++ m ∷ []) (same_memo memo (take (length (memo.text ++ 10 ∷ []) - 1) (memo.text ++ 10 ∷ [])) (whole-feed memo.text))

read_lines : (number : ℕ) (done : List MemoValue) (memo : MemoValue) (s : List ℕ) → IsKept memo
    → (k : ℕ) × (memos_from number (reading_of done memo []) (lines_in (memo_lines memo.text ++ s))
    ≡ memos_from k (reading_of done memo (memo.text ++ 10 ∷ [])) (lines_in s))
read_lines number done memo s kept =
    let parts = parts_of memo.text (is_read-whole memo.text kept.whole_text kept.proper.text) in
    let text = join_with_byte 10 (parts.part ∷ parts.parts) in
    let joined = parts.joined in
    let room : length (text ++ 10 ∷ []) ≤ 65500 = omega (arith, length-append text (10 ∷ []), ap length joined, kept.short_text) in
    let read = read_parts number done memo [] parts.part parts.parts s parts.good room in
    (read.0, subst (λ (t : List ℕ). memos_from number (reading_of done memo []) (lines_in (memo_lines t ++ s)) ≡ memos_from read.0 (reading_of done memo (t ++ 10 ∷ [])) (lines_in s)) joined read.1)

-- ---- all memos

read_memos : (number : ℕ) (reading : ReadingValue) (memos : List MemoValue) → All IsKept memos
    → memos_from number reading (lines_in (memos_text memos)) ≡ Ok (memos_of reading ++ memos)
read_memos number reading [] all =
    ap (memos_from number reading) lines_in-nil ∙ (memos_from-nil number reading ∙ ap Ok (sym (append-nil (memos_of reading))))
read_memos number reading (memo ∷ memos) all =
    let kept = All-head IsKept memo memos all in
    let rest = memos_text memos in
    let done = memos_of reading in
    let head = read_head number reading memo.id memo.secret memo.label (memo_lines memo.text ++ rest) kept.proper.id kept.short_label (is_read-whole memo.label kept.whole_label kept.proper.label) in
    let lines = read_lines (number + 1) done memo rest kept in
    let behind = read_memos lines.0 (reading_of done memo (memo.text ++ 10 ∷ [])) memos (All-tail IsKept memo memos all) in
    ap (λ l. memos_from number reading (lines_in l)) (append_assoc (head_line memo.id memo.secret memo.label) (memo_lines memo.text) rest)
    ∙ (head ∙ (lines.1 ∙ (behind ∙ ap (λ l. Ok (l ++ memos)) (memos_of-memo done memo) ∙ ap Ok (append_assoc done (memo ∷ []) memos))))

-- a text of memos begins with a dash, and so with no mark
without_mark-memos_text : (memos : List MemoValue) → without_mark (memos_text memos) ≡ memos_text memos
without_mark-memos_text [] = refl
without_mark-memos_text (memo ∷ memos) = refl

pub memos_in-memos_text : (memos : List MemoValue) → All IsKept memos → memos_in (memos_text memos) ≡ Ok memos
memos_in-memos_text memos all =
    ap (λ t. memos_from 1 (record { done = []; last = None }) (lines_in t)) (without_mark-memos_text memos)
    ∙ read_memos 1 (record { done = []; last = None }) memos all
