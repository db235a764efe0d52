-- Drawing items one by one.
use Rattle.std.proofs.Common.{◌≡◌, ◌≤◌, ◌<◌, ◌+◌, ◌-◌, ℕ, zero, suc, refl, sym, ap, ◌∙◌, arith, List, [], ◌∷◌, ◌++◌, length, append_assoc}
use Rattle.std.specs.Fmt.{decimal}
use Rattle.std.proofs.lemmas.List.{append-nil}
use Rattle.std.proofs.lemmas.Fmt.{length-decimal-le}
use Rattle.rand_pcg.specs.Lcg.{Lcg}
use Rattle.rand_pcg.specs.Pcg.{pcg32}
use Rattle.made_folders.specs.Items.{item_of, items_from}
use Rattle.made_folders.specs.declared.item.Item.{Item}

-- as many items as were asked for
pub length-items_from : (number count : ℕ) (generator : Lcg) → length (items_from number count generator) ≡ count
unfolding items_from
length-items_from number zero generator = refl
length-items_from number (suc count) generator = ap suc (length-items_from (suc number) count (pcg32 generator).1)

-- the next item comes first
pub items_from-suc : (number count : ℕ) (generator : Lcg)
    → items_from number (suc count) generator ≡ item_of number (pcg32 generator).0 ∷ items_from (suc number) count (pcg32 generator).1
unfolding items_from
items_from-suc number count generator = refl

-- no more items
pub items_from-zero : (number : ℕ) (generator : Lcg) → items_from number zero generator ≡ []
unfolding items_from
items_from-zero number generator = refl

-- the number of an item has at most four digits
pub short_number : (number : ℕ) → number ≤ 5000 → length (decimal number) ≤ 4
short_number number few = length-decimal-le 4 number (omega arith) (omega arith) (omega arith)

-- one more item is drawn
pub items_from-next : (number left : ℕ) (generator : Lcg)
    → 0 < left → items_from number left generator ≡ item_of number (pcg32 generator).0 ∷ items_from (number + 1) (left - 1) (pcg32 generator).1
items_from-next number zero generator more = absurd (omega arith)
items_from-next number (suc left) generator more =
    let next : number + 1 ≡ suc number = omega arith in
    let rest : suc left - 1 ≡ left = omega arith in
    rw (next, rest) (items_from-suc number left generator)

-- the items so far, and those that are still to be drawn
pub draw : (whole items : List Item) (number left word : ℕ) (old new : Lcg)
    → whole ≡ items ++ items_from number left old → 0 < left → ◌≡◌ {A = ℕ × Lcg} (word, new) (pcg32 old)
    → whole ≡ (items ++ item_of number word ∷ []) ++ items_from (number + 1) (left - 1) new
draw whole items number left word old new so_far more step =
    let next = items_from-next number left old more in
    let drawn = ap (λ (pair : ℕ × Lcg). item_of number pair.0 ∷ items_from (number + 1) (left - 1) pair.1) (sym step) in
    so_far ∙ ap (λ rest. items ++ rest) (next ∙ drawn) ∙ sym (append_assoc items (item_of number word ∷ []) (items_from (number + 1) (left - 1) new))

-- nothing is still to be drawn
pub drawn_all : (whole items : List Item) (number left : ℕ) (generator : Lcg) → whole ≡ items ++ items_from number left generator → left ≡ 0 → items ≡ whole
drawn_all whole items number zero generator so_far none =
    sym (so_far ∙ ap (λ rest. items ++ rest) (items_from-zero number generator) ∙ append-nil items)
drawn_all whole items number (suc left) generator so_far none = cc
