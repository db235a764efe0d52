-- The labels of memos.
use Rattle.std.proofs.lemmas.List.{length-append}
use Rattle.std.proofs.Common.{arith, ◌≡◌, ◌<◌, ◌≤◌, ◌++◌, ◌∷◌, [], ◌∙◌, ◌+◌, ◌==◌, ◌||◌, ap, refl, sym, ℕ, suc, Bool, true, false, cond, List, add-one, drop, drop-cons, get_or, length}
use Rattle.std.specs.Option.{is_some}
use Rattle.memo_texts.specs.Memos.{MemoValue}
use Rattle.memo_texts.specs.Databases.{labels_from, place_of, with_label}

pub labels_from-cons : (labels : List (List ℕ)) (memo : MemoValue) (memos : List MemoValue) → labels_from labels (memo ∷ memos) ≡ labels_from (with_label labels memo.label) memos
unfolding labels_from
labels_from-cons labels memo memos = refl

pub labels_from-nil : (labels : List (List ℕ)) → labels_from labels [] ≡ labels
unfolding labels_from
labels_from-nil labels = refl

pub labels_from-drop : (labels more : List (List ℕ)) (memos : List MemoValue) (at : ℕ) (memo : MemoValue) → at < length memos → memo ≡ get_or memos at memo
    → more ≡ with_label labels memo.label → labels_from more (drop (at + 1) memos) ≡ labels_from labels (drop at memos)
labels_from-drop labels more memos at memo inside is grown =
    let rest = drop (suc at) memos in
    let front = drop-cons memos at memo inside in
    let own : labels_from labels (get_or memos at memo ∷ rest) ≡ labels_from labels (memo ∷ rest) = ap (λ (m : MemoValue). labels_from labels (m ∷ rest)) (sym is) in
    rw (add-one, grown) (sym (labels_from-cons labels memo rest) ∙ (sym own ∙ sym (ap (labels_from labels) front)))

by_test : (t : Bool) (labels : List (List ℕ)) (label : List ℕ) → length labels ≤ length (cond t labels (labels ++ label ∷ []))
by_test true labels label = omega arith
by_test false labels label = omega (arith, length-append labels (label ∷ []))

pub labels_from_more : (labels : List (List ℕ)) (memos : List MemoValue) → length labels ≤ length (labels_from labels memos)
unfolding labels_from
labels_from_more labels [] = omega arith
labels_from_more labels (memo ∷ memos) =
    let one = by_test (length memo.label == 0 || is_some (place_of labels memo.label)) labels memo.label in
    omega (arith, one, labels_from_more (with_label labels memo.label) memos)
