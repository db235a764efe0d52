-- Two numbers that were exchanged are exchanged back.
use Rattle.std.proofs.lemmas.Bool.Decides.{nat_tests}
use Rattle.std.proofs.Common.{arith, ◌≡◌, ◌∙◌, ap, refl, sym, ℕ, zero, suc, ◌<◌, ◌≤◌, true, List, [], ◌∷◌, get_or, map}
use Rattle.std.specs.List.{AllByRecursion}
use Rattle.pdb_values.specs.declared.record.Record.{Record}
use Rattle.category_tables.specs.Merges.{places_of}
use Rattle.category_tables.specs.Swaps.{IsSwapOf, swapped}
use Rattle.category_tables.specs.Tables.{IsTable, TableValue, entry_at, has_label, is_used}
use Rattle.category_tables.proofs.MergedLaws.{merged_settled, swapped_back, swapped_within}
use Rattle.category_tables.proofs.OwnedLaws.{labelled_used}
use Rattle.category_mirror.specs.Filings.{swapped_record}
use Rattle.category_mirror.specs.Refiled.{refiled_record}

swapped_twice : (i j k : ℕ) → swapped i j (swapped i j k) ≡ k
swapped_twice i j k = grind (arith, nat_tests)

swapped_zero : (i j : ℕ) → 1 ≤ i → 1 ≤ j → swapped i j 0 ≡ 0
swapped_zero i j one two = grind (arith, nat_tests)

module _ (handheld desktop : TableValue) (i j : ℕ) (one : IsTable handheld) (other : IsTable desktop) (swap : IsSwapOf i j handheld.entries desktop.entries) where
  back : (k : ℕ) → k < 16 → is_used handheld.entries k ≡ true → get_or (places_of handheld desktop) (swapped i j k) 0 ≡ k
  back zero few used = ap (λ n. get_or (places_of handheld desktop) n 0) (swapped_zero i j swap.one.0 swap.two.0) ∙ (merged_settled handheld desktop one other).first
  back (suc k) few used =
      let there = swapped_within i j (suc k) swap.one swap.two (omega arith) few in
      let entry : entry_at desktop.entries (swapped i j (suc k)) ≡ entry_at handheld.entries (suc k) =
      swap.entry (swapped i j (suc k)) there.0 there.1 ∙ ap (λ n. entry_at handheld.entries n) (swapped_twice i j (suc k)) in
      let used_there : is_used desktop.entries (swapped i j (suc k)) ≡ true =
      labelled_used desktop.entries (swapped i j (suc k)) there.0 ∙ ap has_label entry ∙ sym (labelled_used handheld.entries (suc k) (omega arith)) ∙ used in
      swapped_back handheld desktop i j (swapped i j (suc k)) one other swap there.0 there.1 used_there ∙ swapped_twice i j (suc k)

  pub swap_undone : (records : List Record)
      → AllByRecursion (λ (item : Record). (item.content.category < 16) × (is_used handheld.entries item.content.category ≡ true)) records
      → map (refiled_record (places_of handheld desktop)) (map (swapped_record i j) records) ≡ records
  swap_undone [] all = refl
  swap_undone (item ∷ records) all =
      ap (λ n. record item { content = record item.content { category = n } } ∷ map (refiled_record (places_of handheld desktop)) (map (swapped_record i j) records))
      (back item.content.category all.0.0 all.0.1)
      ∙ ap (λ rest. item ∷ rest) (swap_undone records all.1)
