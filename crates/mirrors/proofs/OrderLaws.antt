-- What a stable sort by ids leaves, once all but the first entry of each id are gone.
use Rattle.std.proofs.Common.{◌≡◌, ◌∙◌, ◌<◌, ◌≤◌, ◌==◌, refl, ap, sym, arith, ℕ, zero, suc, Bool, true, false, List, [], ◌∷◌, length, map, filter}
use Rattle.std.proofs.Common.{cond, Option, Some, None, option_to_list, get_or, rules}
use Rattle.std.specs.Ordering.{nat_cmp}
use Rattle.std.specs.List.{AllByRecursion, dedup, dedup_from}
use Rattle.std.specs.List.Sorted.{IsNonDecreasingBy, IsPermutation, IsStableByKey}
use Rattle.std.proofs.lemmas.List.Elements.{recursion_from_All}
use Rattle.std.proofs.lemmas.List.Sorted.{All-permutation}
use Rattle.std.proofs.lemmas.Bool.Decides.{nat_tests}
use Rattle.std.proofs.lemmas.List.{map-append}
use Rattle.conduit_rules.specs.ById.{at, each_below, id_bound, with_id}
use Rattle.conduit_rules.specs.Views.{first_seen}
use Rattle.conduit_rules.specs.declared.view.Seen.{Seen}
use Rattle.conduit_rules.proofs.ByIdLaws.{each_below-same, each_below-suc, each_below-zero}
use Rattle.conduit_rules.proofs.PlanLaws.{IsRisingFrom, ids_of}
use Rattle.conduit_rules.proofs.RisingLaws.{each_below-rising}
use Rattle.conduit_rules.proofs.SortLaws.{same-by_key}
use Rattle.mirrors.specs.Entries.{AreBounded, ordered}
use Rattle.std.proofs.lemmas.Grind.{common_steps}

-- ---- the first entry of an id

abbrev pub same_id : Seen → Seen → Bool
same_id later kept = later.id == kept.id

first-dedup_from : (i : ℕ) (k : Seen) (xs : List Seen) → first_seen i (dedup_from same_id k xs) ≡ first_seen i (k ∷ xs)
first-dedup_from i k [] = refl
first-dedup_from i k (x ∷ xs) = grind (arith, common_steps, nat_tests, first-dedup_from i k xs, first-dedup_from i x xs)

first-dedup : (i : ℕ) (xs : List Seen) → first_seen i (dedup same_id xs) ≡ first_seen i xs
first-dedup i [] = refl
first-dedup i (x ∷ xs) = first-dedup_from i x xs

-- the first that passes a test is the first of those that pass it
abbrev front : List Seen → Option Seen
front [] = None
front (x ∷ xs) = Some x

first-filter : (i : ℕ) (xs : List Seen) → first_seen i xs ≡ front (filter (λ s. s.id == i) xs)
first-filter i [] = refl
first-filter i (x ∷ xs) = grind (arith, common_steps, nat_tests, first-filter i xs)

first-stable : (i : ℕ) (xs ys : List Seen) → IsStableByKey (λ (s : Seen). s.id) nat_cmp xs ys → first_seen i ys ≡ first_seen i xs
first-stable i xs ys stable = cc (first-filter i ys, same-by_key (λ (s : Seen). s.id) xs ys stable i, first-filter i xs)

-- ---- entries in rising ids, none twice

abbrev IsSortedFrom : ℕ → List Seen → ℕ → Type 0
IsSortedFrom low [] end = Unit {0}
IsSortedFrom low (s ∷ ss) end = (low ≤ s.id) × (s.id < end) × IsSortedFrom s.id ss end

abbrev RisesFrom : ℕ → List Seen → ℕ → Type 0
RisesFrom low [] end = low ≤ end
RisesFrom low (s ∷ ss) end = (low ≤ s.id) × RisesFrom (suc s.id) ss end

rises-dedup_from : (low end : ℕ) (k : Seen) (xs : List Seen) → low ≤ k.id → k.id < end → IsSortedFrom k.id xs end → RisesFrom low (dedup_from same_id k xs) end
rises-dedup_from low end k [] above below sorted = (above, below)
rises-dedup_from low end k (x ∷ xs) above below sorted =
    by (same_id x k) refl (λ is. rises-dedup_from low end k xs above below (rw (← is) sorted.2))
    (λ over. rises-dedup_from (suc k.id) end x xs over sorted.1 sorted.2)
  where
    by : (b : Bool) → same_id x k ≡ b → (x.id ≡ k.id → RisesFrom low (dedup_from same_id k xs) end)
        → (suc k.id ≤ x.id → RisesFrom (suc k.id) (dedup_from same_id x xs) end)
        → RisesFrom low (cond b (dedup_from same_id k xs) (k ∷ dedup_from same_id x xs)) end
    by true is kept later = kept (grind (arith, nat_tests, is))
    by false is kept later = (above, later (let over : suc k.id ≤ x.id = grind (arith, nat_tests, is, sorted.0) in over))

rises-dedup : (end : ℕ) (xs : List Seen) → IsSortedFrom 0 xs end → RisesFrom 0 (dedup same_id xs) end
rises-dedup end xs sorted = search (rules, rises-dedup_from)

-- ---- what stands under each id

abbrev paired : List Seen → List (ℕ × Seen)
paired ss = map (λ s. (s.id, s)) ss

at-paired : (i : ℕ) (ss : List Seen) → at i (paired ss) ≡ first_seen i ss
at-paired i [] = refl
at-paired i (s ∷ ss) = grind (arith, at-paired i ss)

rising-paired : (low end : ℕ) (ss : List Seen) → RisesFrom low ss end → IsRisingFrom low (ids_of (paired ss)) end
rising-paired low end [] rises = rises
rising-paired low end (s ∷ ss) rises = (rises.0, rising-paired (suc s.id) end ss rises.1)

unpaired : (ss : List Seen) → map (λ e. e.1) (paired ss) ≡ ss
unpaired [] = refl
unpaired (s ∷ ss) = cc (unpaired ss)

map-with_id : (i : ℕ) (o : Option Seen) → map (λ e. e.1) (with_id i o) ≡ option_to_list o
map-with_id i None = refl
map-with_id i (Some s) = refl

map-each_below : (f : ℕ → Option Seen) (n : ℕ) → map (λ e. e.1) (each_below (λ i. with_id i (f i)) n) ≡ each_below (λ i. option_to_list (f i)) n
map-each_below f zero = grind (arith, common_steps, nat_tests, each_below-zero)
map-each_below f (suc n) = grind (arith, common_steps, nat_tests, each_below-suc, map-append, map-each_below f n, map-with_id)

-- a list in rising ids is what stands under each id
each_below-first_seen : (end : ℕ) (ss : List Seen) → RisesFrom 0 ss end → each_below (λ i. option_to_list (first_seen i ss)) end ≡ ss
each_below-first_seen end ss rises =
    cc (
      each_below-same (λ i. option_to_list (first_seen i ss)) (λ i. option_to_list (at i (paired ss))) end (λ i l. ap option_to_list (sym (at-paired i ss))),
      map-each_below (λ i. at i (paired ss)) end,
      each_below-rising end (paired ss) (rising-paired 0 end ss rises),
      unpaired ss,
    )

-- ---- a sorted list

sorted-from : (low end : ℕ) (xs : List Seen) → ((k : ℕ) (d : Seen) → k < length xs → low ≤ (get_or xs k d).id) → AllByRecursion (λ (s : Seen). s.id < end) xs
    → IsNonDecreasingBy (λ (s : Seen). s.id) xs → IsSortedFrom low xs end
sorted-from low end [] above bounded rises = tt
sorted-from low end (x ∷ xs) above bounded rises = (
  above 0 x (omega arith),
  bounded.0,
  sorted-from x.id end xs (λ k d l. rises 0 (suc k) d (omega arith) (omega arith)) bounded.1 (λ i j d r l. rises (suc i) (suc j) d (omega arith) (omega arith)),
)

-- the first of each id, in rising ids
pub record InOrder (xs zs : List Seen) : Type 0 where
  pub kept : zs ≡ ordered xs
  pub rises : ordered zs ≡ zs

pub in_order-sorted : {zs : List Seen} (xs ys : List Seen) → IsStableByKey (λ (s : Seen). s.id) nat_cmp xs ys → IsPermutation xs ys
    → IsNonDecreasingBy (λ (s : Seen). s.id) ys → AreBounded xs → zs ≡ dedup same_id ys → InOrder xs zs
in_order-sorted xs ys stable moved rises bounded is =
    let within : AllByRecursion (λ (s : Seen). s.id < id_bound) ys =
    recursion_from_All (λ (s : Seen). s.id < id_bound) ys (All-permutation (λ (s : Seen). s.id < id_bound) xs ys moved bounded) in
    let sorted = sorted-from 0 id_bound ys (λ k d l. omega arith) within rises in
    let whole = each_below-first_seen id_bound (dedup same_id ys) (rises-dedup id_bound ys sorted) in
    record {
      kept = cc (each_below-same (λ i. option_to_list (first_seen i (dedup same_id ys))) (λ i. option_to_list (first_seen i xs)) id_bound (λ i l. ap
          option_to_list (first-dedup i ys ∙ first-stable i xs ys stable)));
      rises = rw is whole;
    }
