-- One text is that of one list of memos.
use Rattle.std.proofs.lemmas.List.Elements.{All-head, All-tail}
use Rattle.std.proofs.Common.{◌≡◌, ◌++◌, ◌∷◌, [], ◌∙◌, inl, inr, refl, sym, ℕ, List, append_assoc}
use Rattle.std.specs.Prelude.{All}
use Rattle.memo_texts.specs.ExportHeads.{head_line}
use Rattle.memo_texts.specs.Memos.{IsMemo, MemoValue, memo_lines, memo_text, memos_text}
use Rattle.memo_texts.proofs.HeadLaws.{head_front}
use Rattle.memo_texts.proofs.ExportLineLaws.{IsEnd, lines_behind, lines_front}

memos_end : (memos : List MemoValue) → IsEnd (memos_text memos)
memos_end [] = inl refl
memos_end (memo ∷ memos) = inr (_, refl)

same_memo : (m n : MemoValue) → m.id ≡ n.id → m.secret ≡ n.secret → m.label ≡ n.label → m.text ≡ n.text → m ≡ n
same_memo m n id secret label text = λ i. record { id = id i; secret = secret i; label = label i; text = text i }

memo_front : (m n : MemoValue) (s t : List ℕ) → IsMemo m → IsMemo n → IsEnd s → IsEnd t → memo_text m ++ s ≡ memo_text n ++ t → (m ≡ n) × (s ≡ t)
memo_front m n s t is_m is_n end_s end_t e =
    let moved =
    sym (append_assoc (head_line m.id m.secret m.label) (memo_lines m.text) s) ∙ (e ∙ append_assoc (head_line n.id n.secret n.label) (memo_lines n.text) t)
    in
    let head = head_front m.id n.id m.secret n.secret m.label n.label (memo_lines m.text ++ s) (memo_lines n.text ++ t) is_m.id is_n.id is_m.label is_n.label moved in
    let body = lines_front m.text n.text s t is_m.text is_n.text end_s end_t (lines_behind m.text n.text s t is_m.text is_n.text head.3) in
    (same_memo m n head.0 head.1 head.2 body.0, body.1)

pub memos_text_injective : (a b : List MemoValue) → All IsMemo a → All IsMemo b → memos_text a ≡ memos_text b → a ≡ b
memos_text_injective [] [] h k e = refl
memos_text_injective [] (n ∷ ns) h k e = cc
memos_text_injective (m ∷ ms) [] h k e = cc
memos_text_injective (m ∷ ms) (n ∷ ns) h k e =
    let front = memo_front m n (memos_text ms) (memos_text ns) (All-head IsMemo m ms h) (All-head IsMemo n ns k) (memos_end ms) (memos_end ns) e in
    let rest = memos_text_injective ms ns (All-tail IsMemo m ms h) (All-tail IsMemo n ns k) front.1 in
    λ i. front.0 i ∷ rest i
