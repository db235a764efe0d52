-- The labels of a merged table are those of both tables, so that it has a text.
use Rattle.std.proofs.lemmas.Grind.{common_steps}
use Rattle.std.proofs.lemmas.Bool.Decides.{nat_tests}
use Rattle.std.proofs.lemmas.List.{length-map}
use Rattle.std.proofs.lemmas.List.Elements.{All-from_get_or}
use Rattle.std.proofs.Common.{arith, ◌≡◌, refl, ℕ, zero, suc, ◌+◌, ◌-◌, ◌*◌, ◌<◌, ◌==◌, Bool, true, false, List, [], ◌∷◌, ◌++◌}
use Rattle.std.proofs.Common.{length, length-append, map, take, set}
use Rattle.std.specs.Prelude.{Option, None, Some, position}
use Rattle.std.specs.List.{flat_map, range_with_len}
use Rattle.palm_records.specs.Strings.{first_zero, until_zero}
use Rattle.category_tables.specs.Tables.{CategoryValue, IsTable, TableValue, entry_at, is_renamed, is_used, no_entry}
use Rattle.category_tables.specs.Merges.{MergingValue, begun, by_id, by_label, filled, is_new, joined, kept_at, labelled, merged_table, merging, rounds}
use Rattle.category_tables.specs.Texts.{HasText, HoldsTable, IsLabel, entry_in, id_of, label_bytes, label_text, table_in, table_text}
use Rattle.category_tables.proofs.MergedLaws.{merged_is_table}
use Rattle.category_tables.proofs.TextLaws.{length-label}

-- each entry has a label that can be written
abbrev pub AreLabels : List CategoryValue → Type 0
AreLabels entries = (k : ℕ) → IsLabel (entry_at entries k)

empty_label : IsLabel no_entry
empty_label = record { short = omega arith; whole = refl }

-- ---- of a table that was read

none_before : (bytes : List ℕ) (place : ℕ) → position (λ byte. byte == 0) bytes ≡ Some place → position (λ byte. byte == 0) (take place bytes) ≡ None
none_before [] place is = absurd cc
none_before (byte ∷ bytes) zero is = refl
none_before (byte ∷ bytes) (suc place) is = grind (arith, nat_tests, common_steps, none_before bytes place)

pub until-whole : (bytes : List ℕ) → first_zero (until_zero bytes) ≡ None
until-whole bytes = by (first_zero bytes) refl
  where
    by : (o : Option ℕ) → first_zero bytes ≡ o → first_zero (until_zero bytes) ≡ None
    by None is = rw is is
    by (Some place) is = rw is (none_before bytes place is)

mapped_labels : (f : ℕ → CategoryValue) (ns : List ℕ) → ((n : ℕ) → IsLabel (f n)) → AreLabels (map f ns)
mapped_labels f [] each k = empty_label
mapped_labels f (n ∷ ns) each zero = each n
mapped_labels f (n ∷ ns) each (suc k) = mapped_labels f ns each k

range_labels : (f : ℕ → CategoryValue) (begin count : ℕ) → ((n : ℕ) → n < begin + count → IsLabel (f n)) → AreLabels (map f (range_with_len begin count))
range_labels f begin zero each k = empty_label
range_labels f begin (suc count) each zero = each begin (omega arith)
range_labels f begin (suc count) each (suc k) = range_labels f (begin + 1) count (λ n less. each n (omega arith)) k

pub read_labels : (bytes : List ℕ) → HoldsTable bytes → AreLabels (table_in bytes).entries
unfolding table_in
read_labels bytes is = range_labels (entry_in bytes) 0 16 (λ n less. record { short = is.ended n less; whole = until-whole (label_bytes bytes n) })

-- ---- kept by a merge

set_labels : (entries : List CategoryValue) (i : ℕ) (entry : CategoryValue) → AreLabels entries → IsLabel entry → AreLabels (set entries i entry)
set_labels [] i entry all is k = empty_label
set_labels (x ∷ xs) zero entry all is zero = is
set_labels (x ∷ xs) zero entry all is (suc k) = all (suc k)
set_labels (x ∷ xs) (suc i) entry all is zero = all zero
set_labels (x ∷ xs) (suc i) entry all is (suc k) = set_labels xs i entry (λ n. all (suc n)) is k

kept_label : (entries : List CategoryValue) → AreLabels entries → (k : ℕ) → IsLabel (kept_at entries k)
kept_label entries all k = by (is_used entries k) refl
  where
    by : (b : Bool) → is_used entries k ≡ b → IsLabel (kept_at entries k)
    by true e = rw e (all k)
    by false e = rw e empty_label

module _ (handheld desktop : TableValue) (one : AreLabels handheld.entries) (other : AreLabels desktop.entries) where
  abbrev Keeps : MergingValue → Type 0
  Keeps merging = AreLabels merging.entries

  joined_labels : (number : ℕ) (place : Option ℕ) (merging : MergingValue) → Keeps merging → Keeps (joined desktop number place merging)
  joined_labels number None merging all = all
  joined_labels number (Some place) merging all = by _ refl
    where
      by : (b : Bool) → is_renamed desktop number ≡ b → Keeps (joined desktop number (Some place) merging)
      by true e = rw e (set_labels merging.entries place _ all (record { short = (other number).short; whole = (other number).whole }))
      by false e = rw e all

  by_id_labels : (number : ℕ) (merging : MergingValue) → Keeps merging → Keeps (by_id handheld desktop number merging)
  unfolding by_id
  by_id_labels number merging all = by (is_used desktop.entries number) refl
    where
      by : (b : Bool) → is_used desktop.entries number ≡ b → Keeps (by_id handheld desktop number merging)
      by true e = rw e (joined_labels number _ merging all)
      by false e = rw e all

  filled_labels : (number : ℕ) (place : Option ℕ) (merging : MergingValue) → Keeps merging → Keeps (filled (entry_at desktop.entries number) number place merging)
  filled_labels number None merging all = all
  filled_labels number (Some place) merging all = set_labels merging.entries place _ all (other number)

  labelled_labels : (number : ℕ) (place : Option ℕ) (merging : MergingValue) → Keeps merging
      → Keeps (labelled (entry_at desktop.entries number) number place merging)
  labelled_labels number None merging all = filled_labels number _ merging all
  labelled_labels number (Some place) merging all = all

  by_label_labels : (number : ℕ) (merging : MergingValue) → Keeps merging → Keeps (by_label handheld desktop number merging)
  unfolding by_label
  by_label_labels number merging all = by (is_new handheld desktop number) refl
    where
      by : (b : Bool) → is_new handheld desktop number ≡ b → Keeps (by_label handheld desktop number merging)
      by true e = rw e (labelled_labels number _ merging all)
      by false e = rw e all

  rounds_labels : (step : ℕ → MergingValue → MergingValue) (number : ℕ) (merging : MergingValue) → ((n : ℕ) (m : MergingValue) → Keeps m → Keeps (step n m))
      → Keeps merging → Keeps (rounds step number merging)
  unfolding rounds
  rounds_labels step zero merging keeps all = all
  rounds_labels step (suc number) merging keeps all = keeps (suc number) (rounds step number merging) (rounds_labels step number merging keeps all)

  pub merged_labels : AreLabels (merged_table handheld desktop).entries
  unfolding merged_table merging
  merged_labels =
      rounds_labels (by_label handheld desktop) 15 _ by_label_labels
      (rounds_labels (by_id handheld desktop) 15 (begun handheld) by_id_labels
      (mapped_labels (kept_at handheld.entries) (range_with_len 0 16) (kept_label handheld.entries one)))

merged_flags : (handheld desktop : TableValue) → (merged_table handheld desktop).flags < 65536
unfolding merged_table
merged_flags handheld desktop = omega arith

pub merged_text : (handheld desktop : TableValue) → IsTable handheld → IsTable desktop → AreLabels handheld.entries → AreLabels desktop.entries
    → HasText (merged_table handheld desktop)
merged_text handheld desktop one other labels more = record {
  table_is = merged_is_table handheld desktop one other;
  labels = All-from_get_or IsLabel (merged_table handheld desktop).entries no_entry (λ i less. merged_labels handheld desktop labels more i);
  flags = merged_flags handheld desktop;
}

-- ---- the length of a text

length-labels : (entries : List CategoryValue) → AreLabels entries → length (flat_map label_text entries) ≡ 16 * length entries
length-labels [] are = refl
length-labels (entry ∷ entries) are =
    let whole = length-label entry (are 0).short in
    let rest = length-labels entries (λ k. are (suc k)) in
    omega (arith, length-append (label_text entry) (flat_map label_text entries), whole, rest)

pub length-text : (table : TableValue) → AreLabels table.entries → length table.entries ≡ 16 → length (table_text table) ≡ 276
unfolding table_text
length-text table are whole =
    let long = length-labels table.entries are in
    let ids = length-map table.entries id_of in
    omega (
      arith,
      long,
      whole,
      ids,
      length-append (flat_map label_text table.entries) (map id_of table.entries ++ table.last ∷ 0 ∷ []),
      length-append (map id_of table.entries) (table.last ∷ 0 ∷ []),
    )
