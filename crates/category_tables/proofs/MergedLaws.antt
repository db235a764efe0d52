-- What a merged table is: a table, and one that the same desktop's merges into once more.
use Rattle.std.proofs.Common.{arith, ◌≡◌, ◌∙◌, ap, inl, inr, refl, sym, ℕ, zero, suc, ◌<◌, ◌≤◌, ◌==◌, ◌||◌, ◌&&◌}
use Rattle.std.specs.Prelude.{is_none, if◌then◌else◌}
use Rattle.std.proofs.Common.{Bool, true, false, cond, List, [], ◌∷◌, Some, get_or, length, map, max, not}
use Rattle.std.proofs.lemmas.Grind.{common_steps}
use Rattle.std.proofs.lemmas.List.FromFn.{fill_by_all, get_or-map-range_with_len, length-map-range_with_len}
use Rattle.std.proofs.lemmas.List.Quantifiers.{position-Some}
use Rattle.std.specs.List.{range_with_len}
use Rattle.std.specs.Str.{bytes_eq}
use Rattle.category_tables.specs.Tables.{CategoryValue, IsTable, TableValue, entry_at, has_label, is_renamed, is_used, no_entry}
use Rattle.category_tables.specs.Merges.{MergingValue, begun, by_id, by_label, greatest, is_new, kept, kept_at, merged_table, merging, of_id, of_label, places_of, rounds, with_entry}
use Rattle.category_tables.proofs.AgainLaws.{stays_settled}
use Rattle.category_tables.proofs.ByLabelLaws.{labelled_at, merged_placed, table_with}
use Rattle.category_tables.proofs.JoinedLaws.{all_joined, bears_found}
use Rattle.category_tables.proofs.OwnedLaws.{labelled_used, own_id}
use Rattle.category_tables.specs.Swaps.{IsSwapOf, swapped}
use Rattle.category_tables.proofs.Settled.{AreSettled, IsMerged, IsSettled, IsThere, id_at, label_at}
use Rattle.pdb_values.proofs.NamedLaws.{bytes_eq-is}

-- ---- the greatest id

-- each is at most this
abbrev AtMost : ℕ → List CategoryValue → Type 0
AtMost most [] = Unit {0}
AtMost most (entry ∷ entries) = (entry.id ≤ most) × AtMost most entries

greatest-above : (last : ℕ) (entries : List CategoryValue) → last ≤ greatest last entries
unfolding greatest
greatest-above last [] = omega arith
greatest-above last (entry ∷ entries) = let above = greatest-above (max last entry.id) entries in omega arith

greatest-most : (last : ℕ) (entries : List CategoryValue) → AtMost (greatest last entries) entries
unfolding greatest
greatest-most last [] = tt
greatest-most last (entry ∷ entries) =
    let above = greatest-above (max last entry.id) entries in (omega arith, greatest-most (max last entry.id) entries)

greatest-same : (last : ℕ) (entries : List CategoryValue) → AtMost last entries → greatest last entries ≡ last
unfolding greatest
greatest-same last [] most = refl
greatest-same last (entry ∷ entries) most =
    let same : max last entry.id ≡ last = omega (arith, most.0) in
    ap (λ n. greatest n entries) same ∙ greatest-same last entries most.1

-- ---- a merged table

same_table : (table : TableValue) (entries : List CategoryValue) → table.entries ≡ entries → IsTable (table_with entries) → IsTable table
same_table table entries same is = record {
  whole = rw same is.whole;
  given = rw same is.given;
  apart = rw same is.apart;
}

pub merged_is_table : (handheld desktop : TableValue) → IsTable handheld → IsTable desktop → IsTable (merged_table handheld desktop)
unfolding merged_table
merged_is_table handheld desktop one other =
    let placed = merged_placed handheld desktop one other in
    record { whole = placed.table.whole; given = placed.table.given; apart = placed.table.apart }

clean_kept : (entries : List CategoryValue) → length entries ≡ 16
    → ((i : ℕ) → 1 ≤ i → i < 16 → has_label (entry_at entries i) ≡ false → entry_at entries i ≡ no_entry) → kept entries ≡ entries
clean_kept entries whole clean = sym (fill_by_all (kept_at entries) entries 16 no_entry whole (λ k less. by_use k (is_used entries k) refl less))
  where
    by_use : (k : ℕ) → (b : Bool) → is_used entries k ≡ b → k < 16 → get_or entries k no_entry ≡ kept_at entries k
    by_use k true used less = rw used refl
    by_use zero false used less = absurd (let no = used in cc)
    by_use (suc k) false used less = rw used (clean (suc k) (omega arith) less (sym (labelled_used entries (suc k) (omega arith)) ∙ used))

pub merged_is_merged : (handheld desktop : TableValue) → IsTable handheld → IsTable desktop → IsMerged (merged_table handheld desktop)
unfolding merged_table
merged_is_merged handheld desktop one other =
    let placed = merged_placed handheld desktop one other in
    record {
      table = record { whole = placed.table.whole; given = placed.table.given; apart = placed.table.apart };
      flags = refl;
      clean = clean_kept (merging handheld desktop).entries placed.table.whole placed.clean;
      last = greatest-same _ (merging handheld desktop).entries (greatest-most (max handheld.last desktop.last) (merging handheld desktop).entries);
    }

pub merged_settled : (handheld desktop : TableValue) → IsTable handheld → IsTable desktop
    → AreSettled (merged_table handheld desktop).entries desktop (places_of handheld desktop)
unfolding merged_table places_of
merged_settled handheld desktop one other =
    let placed = merged_placed handheld desktop one other in
    record {
      whole = placed.whole;
      first = placed.first;
      used = λ j some few used. placed.settled j some few used (inr (omega arith));
      other = placed.other;
    }

-- ---- merged once more

-- a merged table into which a settled desktop's is merged
again : (t desktop : TableValue) (places : List ℕ) → IsMerged t → AreSettled t.entries desktop places → desktop.last ≤ t.last
    → (merged_table t desktop ≡ t) × (places_of t desktop ≡ places)
unfolding merged_table places_of
again t desktop places is settled least =
    let same = stays_settled t desktop places settled is.clean in
    (of_parts t (merging t desktop) desktop.last is.flags (ap (λ (m : MergingValue). m.entries) same) is.last least, ap (λ (m : MergingValue). m.places) same)
  where
    of_parts : (t : TableValue) (m : MergingValue) (last : ℕ) → t.flags ≡ 0 → m.entries ≡ t.entries → greatest t.last t.entries ≡ t.last → last ≤ t.last
        → record { flags = 0; entries = m.entries; last = greatest (max t.last last) m.entries } ≡ t
    of_parts t m last flags entries end least =
        let most : max t.last last ≡ t.last = omega arith in
        rw (entries, most, end, ← flags) refl

least : (handheld desktop : TableValue) → desktop.last ≤ (merged_table handheld desktop).last
unfolding merged_table
least handheld desktop = let above = greatest-above (max handheld.last desktop.last) (merging handheld desktop).entries in omega arith

pub merged_again : (handheld desktop : TableValue) → IsTable handheld → IsTable desktop
    → (merged_table (merged_table handheld desktop) desktop ≡ merged_table handheld desktop)
    × (places_of (merged_table handheld desktop) desktop ≡ places_of handheld desktop)
merged_again handheld desktop one other =
    again (merged_table handheld desktop) desktop (places_of handheld desktop) (merged_is_merged handheld desktop one other)
    (merged_settled handheld desktop one other) (least handheld desktop)

-- ---- merged with itself

-- each used number, and 0 for the others
abbrev own_place : TableValue → ℕ → ℕ
own_place t j = cond (is_used t.entries j) j 0

own_places : TableValue → List ℕ
own_places t = map (own_place t) (range_with_len 0 16)

own_settled : (t : TableValue) → IsMerged t → AreSettled t.entries t (own_places t)
unfolding own_places
own_settled t is = record {
  whole = length-map-range_with_len (own_place t) 0 16;
  first = at 0 (omega arith);
  used = λ j some few used. inl (there j some few used);
  other = λ j some few none. at j few ∙ rw none refl;
}
  where
    at : (j : ℕ) → j < 16 → get_or (map (own_place t) (range_with_len 0 16)) j 0 ≡ own_place t j
    at j few = get_or-map-range_with_len (own_place t) 0 16 j j 0 few (omega arith)

    not_renamed : (j : ℕ) → is_renamed t j ≡ false
    not_renamed j = rw is.flags (grind (arith, common_steps))

    there : (j : ℕ) → 1 ≤ j → j < 16 → is_used t.entries j ≡ true → IsThere t.entries t j (get_or (map (own_place t) (range_with_len 0 16)) j 0)
    there j some few used =
        let here = at j few ∙ own used in
        rw here (record {
          id = own_id t j is.table some few used;
          label = λ renamed. absurd (let no = sym (not_renamed j) ∙ renamed in cc);
        })
      where
        own : is_used t.entries j ≡ true → own_place t j ≡ j
        own used = rw used refl

own_again : (t : TableValue) → IsMerged t → (merged_table t t ≡ t) × (places_of t t ≡ own_places t)
own_again t is = again t t (own_places t) is (own_settled t is) (omega arith)

pub own_same : (t : TableValue) → IsMerged t → merged_table t t ≡ t
own_same t is = (own_again t is).0

pub own_stays : (t : TableValue) (j : ℕ) → IsMerged t → j < 16 → is_used t.entries j ≡ true → get_or (places_of t t) j 0 ≡ j
unfolding own_places
own_stays t j is few used =
    ap (λ (l : List ℕ). get_or l j 0) (own_again t is).1 ∙ get_or-map-range_with_len (own_place t) 0 16 j j 0 few (omega arith) ∙ rw used refl

-- ---- each number goes to one that is used

settled_used : (entries : List CategoryValue) (desktop : TableValue) (j p : ℕ) → 1 ≤ j → is_used desktop.entries j ≡ true → IsSettled entries desktop j p
    → is_used entries p ≡ true
unfolding of_label
settled_used entries desktop j p some used (inl there) =
    let bears = bears_found entries (id_at desktop j) p there.id in
    labelled_used entries p bears.some ∙ bears.labelled
settled_used entries desktop j p some used (inr (inl labelled)) =
    let at = position-Some (λ (entry : CategoryValue). bytes_eq entry.label (label_at desktop j)) entries p no_entry labelled.label in
    let same = bytes_eq-is (entry_at entries p).label (label_at desktop j) at.1 in
    let has = ap (λ (l : List ℕ). not (length l == 0)) same ∙ labelled_at desktop j some used in
    used_where (p == 0) (has_label (entry_at entries p)) has
  where
    used_where : (a b : Bool) → b ≡ true → (a || b) ≡ true
    used_where a b e = grind arith
settled_used entries desktop j p some used (inr (inr homeless)) = rw homeless.place refl

pub places_used : (handheld desktop : TableValue) (j : ℕ) → IsTable handheld → IsTable desktop → j < 16
    → is_used (merged_table handheld desktop).entries (get_or (places_of handheld desktop) j 0) ≡ true
places_used handheld desktop j one other few = by_number j few
  where
    settled : AreSettled (merged_table handheld desktop).entries desktop (places_of handheld desktop)
    settled = merged_settled handheld desktop one other

    by_use : (j : ℕ) → 1 ≤ j → j < 16 → (b : Bool) → is_used desktop.entries j ≡ b
        → is_used (merged_table handheld desktop).entries (get_or (places_of handheld desktop) j 0) ≡ true
    by_use j some few true used = settled_used (merged_table handheld desktop).entries desktop j _ some used (settled.used j some few used)
    by_use j some few false none = rw (settled.other j some few none) refl

    by_number : (j : ℕ) → j < 16 → is_used (merged_table handheld desktop).entries (get_or (places_of handheld desktop) j 0) ≡ true
    by_number zero few = rw settled.first refl
    by_number (suc j) few = by_use (suc j) (omega arith) few (is_used desktop.entries (suc j)) refl

-- ---- a number whose id the handheld has

pub known_place : (handheld desktop : TableValue) (j p : ℕ) → IsTable handheld → IsTable desktop → 1 ≤ j → j < 16 → is_used desktop.entries j ≡ true
    → of_id handheld.entries (id_at desktop j) ≡ Some p → get_or (places_of handheld desktop) j 0 ≡ p
unfolding places_of
known_place handheld desktop j p one other some few used at = (merged_placed handheld desktop one other).known j p some few used at

pub swapped_within : (i j k : ℕ) → (1 ≤ i) × (i < 16) → (1 ≤ j) × (j < 16) → 1 ≤ k → k < 16 → (1 ≤ swapped i j k) × (swapped i j k < 16)
swapped_within i j k one two some few = by_tests (k == i) (k == j)
  where
    by_tests : (a b : Bool) → (1 ≤ cond a j (cond b i k)) × (cond a j (cond b i k) < 16)
    by_tests true b = two
    by_tests false true = one
    by_tests false false = (some, few)

pub swapped_back : (handheld desktop : TableValue) (i j k : ℕ) → IsTable handheld → IsTable desktop → IsSwapOf i j handheld.entries desktop.entries
    → 1 ≤ k → k < 16 → is_used desktop.entries k ≡ true → get_or (places_of handheld desktop) k 0 ≡ swapped i j k
swapped_back handheld desktop i j k one other swap some few used =
    let same = swap.entry k some few in
    let there = swapped_within i j k swap.one swap.two some few in
    known_place handheld desktop k (swapped i j k) one other some few used
    (ap (λ (e : CategoryValue). of_id handheld.entries e.id) same
    ∙ own_id handheld (swapped i j k) one there.0 there.1
    (labelled_used handheld.entries (swapped i j k) there.0 ∙ ap has_label (sym same) ∙ sym (labelled_used desktop.entries k some) ∙ used))

-- ---- any table that is merged with itself

-- none of its numbers is new
old_number : (t : TableValue) → IsTable t → (j : ℕ) → 1 ≤ j → j < 16 → is_new t t j ≡ false
unfolding is_new
old_number t is j some few = by (is_used t.entries j) refl
  where
    by : (b : Bool) → is_used t.entries j ≡ b → (is_used t.entries j && is_none (of_id t.entries (entry_at t.entries j).id)) ≡ false
    by true used = rw (used, own_id t j is some few used) refl
    by false none = rw none refl

none_new : (t : TableValue) → IsTable t → (k : ℕ) → k < 16 → (m : MergingValue) → rounds (by_label t t) k m ≡ m
unfolding rounds by_label
none_new t is zero few m = refl
none_new t is (suc k) few m =
    ap (λ b. if b then with_entry (entry_at t.entries (suc k)) (suc k) (rounds (by_label t t) k m) else rounds (by_label t t) k m)
    (old_number t is (suc k) (omega arith) few) ∙ none_new t is k (omega arith) m

-- what comes of it uses the same numbers
same_used : (t : TableValue) → IsTable t → (k : ℕ) → k < 16 → is_used (merged_table t t).entries k ≡ is_used t.entries k
unfolding merged_table merging
same_used t is zero few = refl
same_used t is (suc k) few =
    labelled_used (merging t t).entries (suc k) (omega arith)
    ∙ ap (λ (m : MergingValue). has_label (entry_at m.entries (suc k))) (none_new t is 15 (omega arith) (rounds (by_id t t) 15 (begun t)))
    ∙ (all_joined t t 15 is (omega arith) is.whole).ids.label (suc k) (omega arith) few
    ∙ sym (labelled_used t.entries (suc k) (omega arith))

-- each number that it uses stays, and the others go to 0
self_places : (t : TableValue) → IsTable t → places_of t t ≡ own_places t
unfolding own_places
self_places t is = fill_by_all (own_place t) (places_of t t) 16 0 settled.whole at
  where
    settled : AreSettled (merged_table t t).entries t (places_of t t)
    settled = merged_settled t t is is

    by_use : (j : ℕ) → 1 ≤ j → j < 16 → (b : Bool) → is_used t.entries j ≡ b → get_or (places_of t t) j 0 ≡ own_place t j
    by_use j some few true used = known_place t t j j is is some few used (own_id t j is some few used) ∙ rw used refl
    by_use j some few false none = settled.other j some few none ∙ rw none refl

    at : (j : ℕ) → j < 16 → get_or (places_of t t) j 0 ≡ own_place t j
    at zero few = settled.first
    at (suc j) few = by_use (suc j) (omega arith) few (is_used t.entries (suc j)) refl

-- so they do once more
pub self_again : (t : TableValue) → IsTable t → places_of (merged_table t t) (merged_table t t) ≡ places_of t t
unfolding own_places
self_again t is =
    self_places (merged_table t t) (merged_is_table t t is is)
    ∙ fill_by_all (own_place t) (own_places (merged_table t t)) 16 0 (length-map-range_with_len (own_place (merged_table t t)) 0 16)
    (λ k few. get_or-map-range_with_len (own_place (merged_table t t)) 0 16 k k 0 few (omega arith) ∙ ap (λ b. cond b k 0) (same_used t is k few))
    ∙ sym (self_places t is)
