-- A table by its ids: each used one is found at its own number.
use Rattle.std.proofs.Common.{arith, ◌≡◌, ◌≢◌, ◌∙◌, ap, refl, sym, ℕ, ◌<◌, ◌≤◌, ◌==◌, ◌&&◌, Bool, true, false, List, length}
use Rattle.std.proofs.Common.{Option, None, Some, not}
use Rattle.std.proofs.lemmas.Bool.{and_parts}
use Rattle.std.proofs.lemmas.Bool.Decides.{nat_tests}
use Rattle.category_tables.specs.Tables.{CategoryValue, IsTable, TableValue, entry_at, has_label, is_used}
use Rattle.category_tables.specs.Merges.{of_id}
use Rattle.category_tables.specs.Owned.{AreOwned, is_found, is_owned}
use Rattle.category_tables.proofs.FoundLaws.{number_is}

-- from number 1 on a category is used where it has a label
pub labelled_used : (entries : List CategoryValue) (j : ℕ) → 1 ≤ j → is_used entries j ≡ has_label (entry_at entries j)
labelled_used entries j some = let zero : (j == 0) ≡ false = grind (arith, nat_tests) in rw zero refl

abbrev pub bears : ℕ → CategoryValue → Bool
bears id entry = has_label entry && (entry.id == id)

bears_own : (entry : CategoryValue) → has_label entry ≡ true → bears entry.id entry ≡ true
bears_own entry e = rw e (grind (arith, nat_tests))

-- an id that another one has is not borne
pub bears_not : (entry : CategoryValue) (id : ℕ) → (has_label entry ≡ true → entry.id ≢ id) → bears id entry ≡ false
bears_not entry id differs = by_label (has_label entry) refl
  where
    by_label : (b : Bool) → has_label entry ≡ b → bears id entry ≡ false
    by_label true e = let ne : entry.id ≢ id = differs e in rw e (grind (arith, nat_tests))
    by_label false e = rw e refl

-- each used number is found by its id
pub own_id : (t : TableValue) (j : ℕ) → IsTable t → 1 ≤ j → j < 16 → is_used t.entries j ≡ true → of_id t.entries (entry_at t.entries j).id ≡ Some j
unfolding of_id
own_id t j is some few used =
    number_is (bears (entry_at t.entries j).id) t.entries j some (omega (arith, is.whole)) (bears_own (entry_at t.entries j) (sym (labelled_used t.entries j some) ∙ used))
    (λ k first below. bears_not (entry_at t.entries k) (entry_at t.entries j).id
    (λ e. is.apart k j first below few (labelled_used t.entries k first ∙ e) used))

found_own : (id j : ℕ) → id ≢ 0 → is_found id j (Some j) ≡ true
found_own id j some = grind (arith, nat_tests)

pub table_owned : (t : TableValue) → IsTable t → AreOwned t
unfolding is_owned
table_owned t is j some few used = rw (own_id t j is some few used) (found_own (entry_at t.entries j).id j (is.given j some few used))

-- what a found number says
found_at : (id j : ℕ) (place : Option ℕ) → is_found id j place ≡ true → (id ≢ 0) × (place ≡ Some j)
found_at id j None e = absurd cc
found_at id j (Some place) e = grind (arith, nat_tests, and_parts (not (id == 0)) (place == j) e)

pub owned_table : (t : TableValue) → length t.entries ≡ 16 → AreOwned t → IsTable t
unfolding is_owned
owned_table t whole owned = record {
  whole = whole;
  given = λ j some few used. (found_at _ _ _ (owned j some few used)).0;
  apart = λ i j some less few one other same.
      let first = (found_at _ _ _ (owned i some (omega arith) one)).1 in
      let second = (found_at _ _ _ (owned j (omega arith) few other)).1 in
      differ i j less (sym first ∙ ap (λ id. of_id t.entries id) same ∙ second);
}
  where
    differ : (i j : ℕ) → i < j → Some i ≡ Some j → ⊥
    differ i j less e = grind arith
