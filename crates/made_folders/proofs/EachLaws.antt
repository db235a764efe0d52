-- What is made by id of made items is made of the items in their order.
use Rattle.std.proofs.lemmas.Grind.{common_steps}
use Rattle.std.proofs.Common.{◌≡◌, ◌≤◌, ◌<◌, ◌+◌, ℕ, zero, suc, ◌==◌, Bool, refl, sym, ap, ◌∙◌, arith, List, [], ◌∷◌, ◌++◌, length, Some, None, append_assoc}
use Rattle.std.proofs.Common.{append-nil, filter}
use Rattle.std.specs.Prelude.{flat_map, cond, sum_by}
use Rattle.std.proofs.lemmas.Bool.Decides.{nat_tests}
use Rattle.std.proofs.lemmas.List.Concat.{length-flat_map}
use Rattle.std.proofs.lemmas.List.Elements.{filter-append}
use Rattle.std.proofs.lemmas.List.Sums.{sum_by-cons}
use Rattle.conduit_rules.specs.ById.{each_below, each_id, id_bound}
use Rattle.conduit_rules.proofs.ByIdLaws.{each_below-gap, each_below-suc, each_below-zero, id_bound-is}
use Rattle.made_folders.specs.declared.item.Item.{Item}
use Rattle.made_folders.specs.Numbers.{AreMade, item_at, kinds}
use Rattle.made_folders.proofs.NumberLaws.{item_at-before, item_at-behind}

numbered : {A : Type 0} (g : ℕ → List A) (n from : ℕ) (items : List Item) → AreMade from items → n ≡ length items + from
    → each_below g n ≡ each_below g from ++ flat_map (λ (item : Item). g item.number) items
numbered g n from [] are is = grind (arith, nat_tests, common_steps)
numbered g n from (item ∷ items) are is = grind (arith, common_steps, numbered g n (suc from) items are.1.1 (omega arith), each_below-suc g from)

-- what an item of a list is under its number
abbrev IsUnder : {A : Type 0} → List Item → (ℕ → List A) → (Item → List A) → Type 0
IsUnder whole g made = (item : Item) → item_at item.number whole ≡ Some item → item.kind < 10 → 0 < item.number → item.number < id_bound
    → g item.number ≡ made item

in_order : {A : Type 0} (whole : List Item) (g : ℕ → List A) (made : Item → List A) (from : ℕ) (items : List Item) → IsUnder whole g made
    → AreMade from items → 0 < from → length items + from ≤ id_bound → ((number : ℕ) → from ≤ number → item_at number whole ≡ item_at number items)
    → flat_map (λ (item : Item). g item.number) items ≡ flat_map made items
in_order whole g made from [] under are some within same = refl
in_order {A} whole g made from (item ∷ items) under are some within same =
    let found : item_at item.number whole ≡ Some item = same item.number (omega (arith, are.0)) ∙ grind (arith, nat_tests) in
    let here : g item.number ≡ made item = under item found are.1.0 (omega (arith, are.0)) (omega (arith, are.0, within)) in
    let later : flat_map (λ (item : Item). g item.number) items ≡ flat_map made items =
    in_order whole g made (suc from) items under are.1.1 (omega arith) (omega (arith, within)) (λ number behind. same number (omega arith)
    ∙ grind (arith, nat_tests, are.0)) in
    ap {A = List A × List A} (λ p. p.0 ++ p.1) (λ k. (here k, later k))

-- what is made by id, where nothing is made of an id without an item
pub each_of : {A : Type 0} (g : ℕ → List A) (made : Item → List A) (items : List Item) → AreMade 1 items → length items ≤ 5000
    → ((number : ℕ) → item_at number items ≡ None → number < id_bound → g number ≡ []) → IsUnder items g made → each_id g ≡ flat_map made items
each_of g made items are few none under =
    let bound : id_bound ≡ 16777216 = id_bound-is in
    each_below-gap g (length items + 1) id_bound (omega (arith, bound))
    (λ number behind within. none number (item_at-behind number 1 items are behind) within)
    ∙ numbered g (length items + 1) 1 items are refl
    ∙ ap (λ ys. ys ++ flat_map (λ (item : Item). g item.number) items) (each_below-suc g 0 ∙ ap (λ ys. ys ++ g 0) (each_below-zero g)
    ∙ none 0 (item_at-before 0 1 items are (omega arith)) (omega (arith, bound)))
    ∙ in_order items g made 1 items under are (omega arith) (omega (arith, bound)) (λ number behind. refl)

-- a filter goes along the ids
pub filter_each : {A : Type 0} (test : A → Bool) (g : ℕ → List A) (n : ℕ) → filter test (each_below g n) ≡ each_below (λ i. filter test (g i)) n
filter_each test g zero = ap (filter test) (each_below-zero g) ∙ sym (each_below-zero (λ i. filter test (g i)))
filter_each test g (suc n) =
    ap (filter test) (each_below-suc g n) ∙ filter-append test (each_below g n) (g n)
    ∙ ap (λ ys. ys ++ filter test (g n)) (filter_each test g n) ∙ sym (each_below-suc (λ i. filter test (g i)) n)

-- nothing of each id is nothing
pub each_nothing : {A : Type 0} (g : ℕ → List A) → ((number : ℕ) → number < id_bound → g number ≡ []) → each_id g ≡ []
each_nothing g none = each_below-gap g 0 id_bound (omega arith) (λ number behind within. none number within) ∙ each_below-zero g

-- ---- counts

more_of : (kind : ℕ) (item : Item) (items : List Item) → kinds kind (item ∷ items) ≡ cond (item.kind == kind) 1 0 + kinds kind items
more_of kind item items = sum_by-cons (λ (item : Item). cond (item.kind == kind) 1 0) item items

more_made : {A : Type 0} (made : Item → List A) (item : Item) (items : List Item)
    → sum_by (λ (item : Item). length (made item)) (item ∷ items) ≡ length (made item) + sum_by (λ (item : Item). length (made item)) items
more_made made item items = sum_by-cons (λ (item : Item). length (made item)) item items

-- as many as there are items of a kind
pub of_kind : {A : Type 0} (made : Item → List A) (kind from : ℕ) (items : List Item) → AreMade from items
    → ((item : Item) → item.kind < 10 → length (made item) ≡ cond (item.kind == kind) 1 0) → length (flat_map made items) ≡ kinds kind items
of_kind made kind from items are is = length-flat_map made items ∙ sums from items are
  where
    sums : (from : ℕ) (items : List Item) → AreMade from items → sum_by (λ (item : Item). length (made item)) items ≡ kinds kind items
    sums from [] are = refl
    sums from (item ∷ items) are = omega (arith, more_made made item items, more_of kind item items, is item are.1.0, sums (suc from) items are.1.1)

-- as many as there are items of two kinds
pub of_kinds : {A : Type 0} (made : Item → List A) (one other from : ℕ) (items : List Item) → AreMade from items
    → ((item : Item) → item.kind < 10 → length (made item) ≡ cond (item.kind == one) 1 0 + cond (item.kind == other) 1 0)
    → length (flat_map made items) ≡ kinds one items + kinds other items
of_kinds made one other from items are is = length-flat_map made items ∙ sums from items are
  where
    sums : (from : ℕ) (items : List Item) → AreMade from items
        → sum_by (λ (item : Item). length (made item)) items ≡ kinds one items + kinds other items
    sums from [] are = refl
    sums from (item ∷ items) are =
        omega (arith, more_made made item items, more_of one item items, more_of other item items, is item are.1.0, sums (suc from) items are.1.1)

-- as many as there are items, but for two kinds
pub but_kinds : {A : Type 0} (made : Item → List A) (one other from : ℕ) (items : List Item) → AreMade from items
    → ((item : Item) → item.kind < 10 → length (made item) + (cond (item.kind == one) 1 0 + cond (item.kind == other) 1 0) ≡ 1)
    → length (flat_map made items) + (kinds one items + kinds other items) ≡ length items
but_kinds made one other from items are is = ap (λ n. n + (kinds one items + kinds other items)) (length-flat_map made items) ∙ sums from items are
  where
    sums : (from : ℕ) (items : List Item) → AreMade from items
        → sum_by (λ (item : Item). length (made item)) items + (kinds one items + kinds other items) ≡ length items
    sums from [] are = refl
    sums from (item ∷ items) are =
        omega (arith, more_made made item items, more_of one item items, more_of other item items, is item are.1.0, sums (suc from) items are.1.1)
