-- Where the labels of a database go in the table of another file.
use Rattle.std.proofs.lemmas.Bool.Decides.{nat_tests}
use Rattle.std.proofs.Common.{arith, ◌≡◌, ◌≢◌, ◌∙◌, ap, refl, ℕ, zero, suc, ◌+◌, ◌<◌, Bool, true, false, List, [], ◌∷◌, Option, None, Some}
use Rattle.std.proofs.Common.{get_or, get_or-set_other, get_or-set_same, length, map}
use Rattle.std.proofs.Math.ListN.{set}
use Rattle.std.proofs.lemmas.List.{get_or-replicate, length-replicate, length-set}
use Rattle.std.proofs.lemmas.List.FromFn.{length-map-range_with_len}
use Rattle.std.proofs.lemmas.List.Quantifiers.{position-Some}
use Rattle.std.specs.Prelude.{◌==◌, ◌||◌, if◌then◌else◌}
use Rattle.std.specs.List.{list_any}
use Rattle.std.specs.Str.{bytes_eq}
use Rattle.category_tables.specs.declared.table.Entry.{Entry}
use Rattle.category_tables.specs.Likes.{AreSmall, by_like, has_id, id_from, liking, new_id}
use Rattle.category_tables.specs.Merges.{MergingValue, begun, filled, kept_at, labelled, of_label, rounds, unused, with_entry}
use Rattle.category_tables.specs.Tables.{CategoryValue, TableValue, entry_at, entry_value, is_used, no_entry}
use Rattle.category_tables.proofs.SetLaws.{free_at}

-- the id of an entry is that of its value
pub has_id_map : (entries : List Entry) (id : ℕ) → list_any (λ (entry : Entry). entry.id == id) entries ≡ has_id (map entry_value entries) id
has_id_map [] id = refl
has_id_map (entry ∷ entries) id = ap (λ b. (entry.id == id) || b) (has_id_map entries id)

-- ---- the first id that no entry has

pub id-here : (tries id : ℕ) (entries : List CategoryValue) → has_id entries id ≡ false → id_from tries id entries ≡ id
unfolding id_from
id-here zero id entries none = refl
id-here (suc tries) id entries none = ap (λ b. if b then id_from tries (id + 1) entries else id) none

pub id-next : (tries id : ℕ) (entries : List CategoryValue) → has_id entries id ≡ true → id_from (suc tries) id entries ≡ id_from tries (id + 1) entries
unfolding id_from
id-next tries id entries some = ap (λ b. if b then id_from tries (id + 1) entries else id) some

pub id-last : (tries id : ℕ) (entries : List CategoryValue) → tries ≡ 0 → id_from tries id entries ≡ id
unfolding id_from
id-last zero id entries none = refl
id-last (suc tries) id entries none = absurd (omega (arith, none))

-- ---- each place is a number

-- a table in the making that has room for each number
pub record IsWhole (merging : MergingValue) : Type 0 where
  pub entries : length merging.entries ≡ 16
  pub places : length merging.places ≡ 16
  pub small : AreSmall merging.places

set_small : (places : List ℕ) (number place : ℕ) → length places ≡ 16 → number < 16 → place < 16 → AreSmall places → AreSmall (set places number place)
set_small places number place whole few less small k below = by (k == number) refl
  where
    by : (b : Bool) → (k == number) ≡ b → get_or (set places number place) k 0 < 16
    by true same =
        let is : k ≡ number = grind (arith, nat_tests) in
        let here = get_or-set_same places number place 0 (omega (arith, whole, few)) in
        omega (arith, less, ap (λ n. get_or (set places number place) n 0) is ∙ here)
    by false other =
        let ne : k ≢ number = grind (arith, nat_tests) in
        let there = get_or-set_other places number k place 0 ne in
        omega (arith, small k below, there)

put_whole : (merging : MergingValue) (number place : ℕ) → number < 16 → place < 16 → IsWhole merging
    → IsWhole (record merging { places = set merging.places number place })
put_whole merging number place few less whole = record {
  entries = whole.entries;
  places = simp length-set whole.places;
  small = set_small merging.places number place whole.places few less whole.small;
}

fill_whole : (entry : CategoryValue) (number : ℕ) (merging : MergingValue) (found : Option ℕ) → unused merging.entries ≡ found → number < 16 → IsWhole merging
    → IsWhole (filled entry number found merging)
fill_whole entry number merging None none few whole = whole
fill_whole entry number merging (Some place) at few whole =
    let free = free_at merging.entries place at in
    let less : place < 16 = omega (arith, free.less, whole.entries) in
    record {
      entries = simp length-set whole.entries;
      places = simp length-set whole.places;
      small = set_small merging.places number place whole.places few less whole.small;
    }

label_whole : (entry : CategoryValue) (number : ℕ) (merging : MergingValue) (found : Option ℕ) → of_label merging.entries entry.label ≡ found → number < 16 → IsWhole merging
    → IsWhole (labelled entry number found merging)
unfolding of_label
label_whole entry number merging None none few whole = fill_whole entry number merging (unused merging.entries) refl few whole
label_whole entry number merging (Some place) at few whole =
    let is = position-Some (λ (e : CategoryValue). bytes_eq e.label entry.label) merging.entries place no_entry at in
    put_whole merging number place few (omega (arith, is.0, whole.entries)) whole

pub step_whole : (made : TableValue) (number : ℕ) (merging : MergingValue) → number < 16 → IsWhole merging → IsWhole (by_like made number merging)
unfolding by_like
step_whole made number merging few whole = by (is_used made.entries number)
  where
    entry : CategoryValue
    entry = record { label = (entry_at made.entries number).label; id = new_id merging.entries }

    by : (b : Bool) → IsWhole (if b then with_entry entry number merging else merging)
    by true = label_whole entry number merging (of_label merging.entries entry.label) refl few whole
    by false = whole

rounds_whole : (made : TableValue) (number : ℕ) (merging : MergingValue) → number < 16 → IsWhole merging → IsWhole (rounds (by_like made) number merging)
unfolding rounds
rounds_whole made zero merging few whole = whole
rounds_whole made (suc number) merging few whole = step_whole made (suc number) _ few (rounds_whole made number merging (omega (arith, few)) whole)

pub begun_whole : (other : TableValue) → IsWhole (begun other)
begun_whole other = record {
  entries = length-map-range_with_len (kept_at other.entries) 0 16;
  places = length-replicate {A = ℕ} 16 0;
  small = λ k below. let none = get_or-replicate {A = ℕ} 16 k 0 0 below in omega (arith, none);
}

pub liking_whole : (other made : TableValue) → IsWhole (liking other made)
unfolding liking
liking_whole other made = rounds_whole made 15 (begun other) (omega arith) (begun_whole other)
