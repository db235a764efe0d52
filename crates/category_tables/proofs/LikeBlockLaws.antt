-- The app block of another file, as its numbers are written one after the other.
use Rattle.std.proofs.Common.{append_assoc, arith, drop-cons, ◌≡◌, ◌∙◌, ap, refl, sym, ℕ, zero, suc, ◌+◌, ◌-◌, ◌*◌, ◌<◌, ◌≤◌, false, List, [], ◌∷◌, ◌++◌, drop, length, length-drop, take}
use Rattle.std.proofs.lemmas.List.{drop-drop, take-append-drop, take_all}
use Rattle.std.specs.Prelude.{if◌then◌else◌, slice_index}
use Rattle.category_tables.specs.Likes.{block_like, id_like, ids_like, is_filled, label_like, labels_like}
use Rattle.category_tables.specs.Tables.{CategoryValue, entry_at}
use Rattle.category_tables.specs.Texts.{label_bytes, label_text}

-- all that is behind a place
pub all_behind : (place : ℕ) (bytes : List ℕ) → take (length bytes - place) (drop place bytes) ≡ drop place bytes
all_behind place bytes = take_all (length bytes - place) (drop place bytes) (omega (arith, length-drop place bytes))

-- ---- one number more

pub labels-more : (other entries : List CategoryValue) (block : List ℕ) (number : ℕ)
    → labels_like other entries block (number + 1) ≡ labels_like other entries block number ++ label_like other entries block number
unfolding labels_like
labels-more other entries block number = let on : number + 1 ≡ suc number = omega arith in ap (labels_like other entries block) on

pub ids-more : (other entries : List CategoryValue) (block : List ℕ) (number : ℕ)
    → ids_like other entries block (number + 1) ≡ ids_like other entries block number ++ id_like other entries block number ∷ []
unfolding ids_like
ids-more other entries block number = let on : number + 1 ≡ suc number = omega arith in ap (ids_like other entries block) on

-- ---- a block without new labels

module _ (other entries : List CategoryValue) (block : List ℕ) (long : 276 ≤ length block) (none : (k : ℕ) → k < 16 → is_filled other entries k ≡ false) where
  labels-all : (n : ℕ) → n ≤ 16 → labels_like other entries block n ++ drop (2 + 16 * n) block ≡ drop 2 block
  unfolding labels_like
  labels-all zero few = refl
  labels-all (suc n) few =
      let next : 2 + 16 * suc n ≡ 2 + 16 * n + 16 = omega arith in
      let old : label_like other entries block n ≡ label_bytes block n =
      ap (λ b. if b then label_text (entry_at entries n) else label_bytes block n) (none n (omega (arith, few))) in
      append_assoc (labels_like other entries block n) (label_like other entries block n) (drop (2 + 16 * suc n) block)
      ∙ ap (λ (l : List ℕ). labels_like other entries block n ++ (l ++ drop (2 + 16 * suc n) block)) old
      ∙ ap (λ (l : List ℕ). labels_like other entries block n ++ (label_bytes block n ++ l))
      (ap (λ k. drop k block) next ∙ sym (drop-drop 16 (2 + 16 * n) block))
      ∙ ap (λ (l : List ℕ). labels_like other entries block n ++ l) (take-append-drop 16 (drop (2 + 16 * n) block))
      ∙ labels-all n (omega (arith, few))

  ids-all : (n : ℕ) → n ≤ 16 → ids_like other entries block n ++ drop (258 + n) block ≡ drop 258 block
  unfolding ids_like
  ids-all zero few = refl
  ids-all (suc n) few =
      let next : 258 + suc n ≡ suc (258 + n) = omega arith in
      let old : id_like other entries block n ≡ slice_index block (258 + n) =
      ap (λ b. if b then (entry_at entries n).id else slice_index block (258 + n)) (none n (omega (arith, few))) in
      append_assoc (ids_like other entries block n) (id_like other entries block n ∷ []) (drop (258 + suc n) block)
      ∙ ap (λ id. ids_like other entries block n ++ id ∷ drop (258 + suc n) block) old
      ∙ ap (λ (l : List ℕ). ids_like other entries block n ++ slice_index block (258 + n) ∷ l) (ap (λ k. drop k block) next)
      ∙ ap (λ (l : List ℕ). ids_like other entries block n ++ l) (sym (drop-cons block (258 + n) 0 (omega (arith, long, few))))
      ∙ ids-all n (omega (arith, few))

  pub block_stays : block_like other entries block ≡ block
  unfolding block_like
  block_stays =
      ap (λ (l : List ℕ). take 2 block ++ (labels_like other entries block 16 ++ l)) (ids-all 16 (omega arith))
      ∙ ap (λ (l : List ℕ). take 2 block ++ l) (labels-all 16 (omega arith)) ∙ take-append-drop 2 block
