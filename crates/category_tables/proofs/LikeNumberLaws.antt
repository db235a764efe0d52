-- A label that the other table has goes to its number there.
use Rattle.std.proofs.Common.{arith, ◌≡◌, ◌≢◌, ◌∙◌, ap, refl, sym, subst, ℕ, zero, suc, ◌<◌, ◌≤◌, Bool, true, false, List, [], ◌∷◌, Option, None, Some}
use Rattle.std.proofs.Common.{get_or, get_or-set_other, get_or-set_same, length, map}
use Rattle.std.proofs.Math.ListN.{set}
use Rattle.std.proofs.lemmas.Bool.Decides.{nat_tests}
use Rattle.std.proofs.lemmas.List.{ext_get_or, get_or-map, length-map}
use Rattle.std.proofs.lemmas.List.FromFn.{get_or-map-range_with_len, length-map-range_with_len}
use Rattle.std.specs.Prelude.{◌==◌, ◌||◌, ◌&&◌, is_some, not, position, if◌then◌else◌}
use Rattle.std.specs.Str.{bytes_eq}
use Rattle.pdb_values.proofs.NamedLaws.{bytes_eq-other}
use Rattle.category_tables.specs.Likes.{AreKnown, by_like, is_filled, liking, new_id}
use Rattle.category_tables.specs.Merges.{MergingValue, begun, filled, kept, kept_at, labelled, of_label, rounds, unused, with_entry}
use Rattle.category_tables.specs.Tables.{CategoryValue, TableValue, UsesNumber, entry_at, has_label, is_used, no_entry}
use Rattle.category_tables.proofs.LikeLaws.{IsWhole, begun_whole, step_whole}
use Rattle.category_tables.proofs.PlaceLaws.{position-map}
use Rattle.category_tables.proofs.SetLaws.{free_at, of_label-set}

-- ---- labels alone

abbrev label_of : CategoryValue → List ℕ
label_of entry = entry.label

position-labels : (entries : List CategoryValue) (label : List ℕ) → position (λ (e : CategoryValue). bytes_eq e.label label) entries
    ≡ position (λ l. bytes_eq l label) (map (λ (e : CategoryValue). e.label) entries)
position-labels entries label = sym (position-map (λ (e : CategoryValue). e.label) (λ l. bytes_eq l label) entries)

-- a label that is not there is empty
no_label : (entry : CategoryValue) → has_label entry ≡ false → entry.label ≡ []
no_label entry none = by entry.label none
  where
    by : (l : List ℕ) → not (length l == 0) ≡ false → l ≡ []
    by [] none = refl
    by (x ∷ l) none = absurd (let e : (length (x ∷ l) == 0) ≡ false = grind (arith, nat_tests) in let no = sym (ap not e) ∙ none in cc)

label_kept : (entries : List CategoryValue) (k : ℕ) → (kept_at entries k).label ≡ (entry_at entries k).label
label_kept entries k = by (is_used entries k) refl
  where
    by : (b : Bool) → is_used entries k ≡ b → (if b then entry_at entries k else no_entry).label ≡ (entry_at entries k).label
    by true used = refl
    by false unused = sym (no_label (entry_at entries k) (lost (k == 0) (has_label (entry_at entries k)) unused))
      where
        lost : (b c : Bool) → (b || c) ≡ false → c ≡ false
        lost true c e = absurd cc
        lost false c e = e

labels_kept : (entries : List CategoryValue) → length entries ≡ 16 → map (λ (e : CategoryValue). e.label) (kept entries) ≡ map (λ (e : CategoryValue). e.label) entries
labels_kept entries whole =
    let count = length-map-range_with_len (kept_at entries) 0 16 in
    ext_get_or [] (map label_of (kept entries)) (map label_of entries)
    (length-map (kept entries) label_of ∙ count ∙ sym (length-map entries label_of ∙ whole))
    (λ k below. let less : k < 16 = omega (arith, below, length-map (kept entries) label_of, count) in
    get_or-map label_of (kept entries) k no_entry [] (omega (arith, less, count))
    ∙ ap label_of (get_or-map-range_with_len (kept_at entries) 0 16 k k no_entry less (omega arith)) ∙ label_kept entries k
    ∙ sym (get_or-map label_of entries k no_entry [] (omega (arith, less, whole))))

of_label-kept : (entries : List CategoryValue) (label : List ℕ) → length entries ≡ 16 → of_label (kept entries) label ≡ of_label entries label
unfolding of_label
of_label-kept entries label whole =
    position-labels (kept entries) label ∙ ap (position (λ l. bytes_eq l label)) (labels_kept entries whole) ∙ sym (position-labels entries label)

-- ---- a label that is there stays where it is

-- an unused entry gets a label that is nowhere yet
of_label-filled : (entries : List CategoryValue) (entry : CategoryValue) (i p : ℕ) (label : List ℕ) → unused entries ≡ Some i → of_label entries entry.label ≡ None
    → (label ≡ [] → ⊥) → of_label entries label ≡ Some p → of_label (set entries i entry) label ≡ Some p
of_label-filled entries entry i p label free nowhere some at =
    of_label-set entries label i entry (bytes_eq-other entry.label label differs ∙ sym (bytes_eq-other (entry_at entries i).label label empty)) ∙ at
  where
    differs : entry.label ≡ label → ⊥
    differs same = let no = sym nowhere ∙ ap (of_label entries) same ∙ at in cc

    empty : (entry_at entries i).label ≡ label → ⊥
    empty same = some (sym same ∙ no_label (entry_at entries i) (free_at entries i free).empty)

-- what holds of the table in the making, once these numbers took their turns
record AreAtHome (other made : TableValue) (turns : ℕ) (merging : MergingValue) : Type 0 where
  whole : IsWhole merging
  still : (label : List ℕ) (place : ℕ) → (label ≡ [] → ⊥) → of_label other.entries label ≡ Some place → of_label merging.entries label ≡ Some place
  home : (number place : ℕ) → 1 ≤ number → number ≤ turns → is_used made.entries number ≡ true
      → of_label other.entries (entry_at made.entries number).label ≡ Some place → get_or merging.places number 0 ≡ place

-- a number that is used has a label
label_some : (made : TableValue) (number : ℕ) → 1 ≤ number → is_used made.entries number ≡ true → (entry_at made.entries number).label ≡ [] → ⊥
label_some made number some used none =
    let first : (number == 0) ≡ false = grind (arith, nat_tests) in
    let empty : has_label (entry_at made.entries number) ≡ false = ap (λ (l : List ℕ). not (length l == 0)) none in
    let no = sym used ∙ ap (λ b. b || has_label (entry_at made.entries number)) first ∙ empty in cc

module _ (other made : TableValue) (turns : ℕ) (merging : MergingValue) (few : suc turns < 16) (before : AreAtHome other made turns merging) where
  abbrev entry : CategoryValue
  entry = record { label = (entry_at made.entries (suc turns)).label; id = new_id merging.entries }

  -- what holds once this number goes to this place
  placed : (new : MergingValue) (here : ℕ) → IsWhole new → get_or new.places (suc turns) 0 ≡ here → ((k : ℕ) → k ≢ (suc turns) → get_or new.places k 0 ≡ get_or merging.places k 0)
      → ((label : List ℕ) (place : ℕ) → (label ≡ [] → ⊥) → of_label other.entries label ≡ Some place → of_label new.entries label ≡ Some place)
      → ((place : ℕ) → is_used made.entries (suc turns) ≡ true → of_label other.entries entry.label ≡ Some place → here ≡ place) → AreAtHome other made (suc turns) new
  placed new here whole at others still is = record {
    whole = whole;
    still = still;
    home = λ k place some most used known. by k place some most used known (k == (suc turns)) refl;
  }
    where
      by : (k place : ℕ) → 1 ≤ k → k ≤ suc turns → is_used made.entries k ≡ true → of_label other.entries (entry_at made.entries k).label ≡ Some place
          → (b : Bool) → (k == (suc turns)) ≡ b → get_or new.places k 0 ≡ place
      by k place some most used known true e =
          let same : k ≡ (suc turns) = grind (arith, nat_tests) in
          ap (λ j. get_or new.places j 0) same ∙ at
          ∙ is place (subst (λ j. is_used made.entries j ≡ true) same used) (subst (λ j. of_label other.entries (entry_at made.entries j).label ≡ Some place) same known)
      by k place some most used known false e =
          let ne : k ≢ (suc turns) = grind (arith, nat_tests) in
          others k ne ∙ before.home k place some (omega (arith, most, ne)) used known

  some : 1 ≤ suc turns
  some = omega arith

  -- the label is nowhere yet
  lost : of_label merging.entries entry.label ≡ None → is_used made.entries (suc turns) ≡ true → (here place : ℕ) → of_label other.entries entry.label ≡ Some place → here ≡ place
  lost none used here place known =
      let no = sym none ∙ before.still entry.label place (label_some made (suc turns) some used) known in absurd cc

  step_filled : (free : Option ℕ) → unused merging.entries ≡ free → IsWhole (filled entry (suc turns) free merging) → is_used made.entries (suc turns) ≡ true
      → of_label merging.entries entry.label ≡ None → AreAtHome other made (suc turns) (filled entry (suc turns) free merging)
  step_filled None none whole used nowhere =
      placed merging (get_or merging.places (suc turns) 0) whole refl (λ k ne. refl) before.still (λ place is. lost nowhere used _ place)
  step_filled (Some i) free whole used nowhere =
      placed (filled entry (suc turns) (Some i) merging) i whole (get_or-set_same merging.places (suc turns) i 0 (omega (arith, before.whole.places, few)))
      (λ k ne. get_or-set_other merging.places (suc turns) k i 0 ne)
      (λ label place some known. of_label-filled merging.entries entry i place label free nowhere some (before.still label place some known))
      (λ place is. lost nowhere used _ place)

  step_labelled : (found : Option ℕ) → of_label merging.entries entry.label ≡ found → IsWhole (labelled entry (suc turns) found merging) → is_used made.entries (suc turns) ≡ true
      → AreAtHome other made (suc turns) (labelled entry (suc turns) found merging)
  step_labelled None nowhere whole used = step_filled (unused merging.entries) refl whole used nowhere
  step_labelled (Some p) at whole used =
      placed (labelled entry (suc turns) (Some p) merging) p whole (get_or-set_same merging.places (suc turns) p 0 (omega (arith, before.whole.places, few)))
      (λ k ne. get_or-set_other merging.places (suc turns) k p 0 ne) before.still
      (λ place is known. some_same (sym at ∙ before.still entry.label place (label_some made (suc turns) some used) known))
    where
      some_same : {p place : ℕ} → Some p ≡ Some place → p ≡ place
      some_same e = cc

  step_home : AreAtHome other made (suc turns) (by_like made (suc turns) merging)
  unfolding by_like
  step_home = by (is_used made.entries (suc turns)) refl (step_whole made (suc turns) merging few before.whole)
    where
      by : (b : Bool) → is_used made.entries (suc turns) ≡ b → IsWhole (by_like made (suc turns) merging) → AreAtHome other made (suc turns) (if b then with_entry entry (suc turns) merging else merging)
      by true used whole =
          step_labelled (of_label merging.entries entry.label) refl (subst (λ b. IsWhole (if b then with_entry entry (suc turns) merging else merging)) used whole) used
      by false not_used whole =
          placed merging (get_or merging.places (suc turns) 0) before.whole refl (λ k ne. refl) before.still
          (λ place used known. let no = sym not_used ∙ used in absurd cc)

rounds_home : (other made : TableValue) (turns : ℕ) → length other.entries ≡ 16 → turns < 16 → AreAtHome other made turns (rounds (by_like made) turns (begun other))
unfolding rounds
rounds_home other made zero whole few = record {
  whole = begun_whole other;
  still = λ label place some known. of_label-kept other.entries label whole ∙ known;
  home = λ number place some most used known. absurd (omega (arith, some, most));
}
rounds_home other made (suc turns) whole few =
    step_home other made turns (rounds (by_like made) turns (begun other)) few (rounds_home other made turns whole (omega (arith, few)))

pub label_home : (other made : TableValue) (number place : ℕ) → length other.entries ≡ 16 → UsesNumber made number
    → of_label other.entries (entry_at made.entries number).label ≡ Some place → get_or (liking other made).places number 0 ≡ place
unfolding liking
label_home other made number place whole uses known =
    (rounds_home other made 15 whole (omega arith)).home number place uses.some (omega (arith, uses.few)) uses.used known

-- ---- where no label is new, no entry is

known_step : (other made : TableValue) (number : ℕ) (merging : MergingValue) → merging.entries ≡ kept other.entries → length other.entries ≡ 16
    → (is_used made.entries number ≡ true → is_some (of_label other.entries (entry_at made.entries number).label) ≡ true)
    → (by_like made number merging).entries ≡ kept other.entries
unfolding by_like
known_step other made number merging same whole known = by (is_used made.entries number) refl
  where
    entry : CategoryValue
    entry = record { label = (entry_at made.entries number).label; id = new_id merging.entries }

    at : of_label merging.entries entry.label ≡ of_label other.entries entry.label
    at = ap (λ (l : List CategoryValue). of_label l entry.label) same ∙ of_label-kept other.entries entry.label whole

    by_label : (found : Option ℕ) → of_label other.entries entry.label ≡ found → is_some found ≡ true → (labelled entry number found merging).entries ≡ kept other.entries
    by_label None none is = absurd cc
    by_label (Some p) here is = same

    by : (b : Bool) → is_used made.entries number ≡ b → (if b then with_entry entry number merging else merging).entries ≡ kept other.entries
    by true used =
        ap (λ (o : Option ℕ). (labelled entry number o merging).entries) at ∙ by_label (of_label other.entries entry.label) refl (known used)
    by false unused = same

known_rounds : (other made : TableValue) (turns : ℕ) → length other.entries ≡ 16 → turns < 16 → AreKnown other made
    → (rounds (by_like made) turns (begun other)).entries ≡ kept other.entries
unfolding rounds
known_rounds other made zero whole few known = refl
known_rounds other made (suc turns) whole few known =
    known_step other made (suc turns) (rounds (by_like made) turns (begun other)) (known_rounds other made turns whole (omega (arith, few)) known) whole
    (known (suc turns) (omega arith) few)

pub known_stay : (other made : TableValue) → length other.entries ≡ 16 → AreKnown other made → (k : ℕ) → k < 16
    → is_filled other.entries (liking other made).entries k ≡ false
unfolding liking
known_stay other made whole known k less =
    ap (λ (l : List CategoryValue). is_filled other.entries l k) (known_rounds other made 15 whole (omega arith) known)
    ∙ ap (λ (e : CategoryValue). not (is_used other.entries k) && has_label e) (get_or-map-range_with_len (kept_at other.entries) 0 16 k k no_entry less (omega arith))
    ∙ by (is_used other.entries k) refl
  where
    by : (b : Bool) → is_used other.entries k ≡ b → (not b && has_label (if b then entry_at other.entries k else no_entry)) ≡ false
    by true used = refl
    by false unused = refl
