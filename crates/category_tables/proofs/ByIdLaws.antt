-- The first round: the handheld's ids stay where they were, and a number of the desktop's with one of them goes there.
use Rattle.std.proofs.Common.{arith, ◌≡◌, ◌∙◌, ap, refl, sym, ℕ, ◌<◌, ◌≤◌}
use Rattle.std.proofs.Common.{Bool, true, false, List, Option, None, Some, get_or, length, replicate}
use Rattle.std.proofs.lemmas.Grind.{common_steps}
use Rattle.std.proofs.lemmas.List.FromFn.{get_or-map-range_with_len, length-map-range_with_len}
use Rattle.category_tables.specs.Tables.{CategoryValue, TableValue, entry_at, has_label, is_renamed, is_used, no_entry}
use Rattle.category_tables.specs.Merges.{MergingValue, begun, kept, kept_at, number_where, of_id}
use Rattle.category_tables.proofs.FoundLaws.{number_found, number_is, number_none}
use Rattle.category_tables.proofs.OwnedLaws.{bears, labelled_used}
use Rattle.category_tables.proofs.Settled.{id_at, label_at}

-- ---- lists in which the same is found

pub number_where-same : (p : CategoryValue → Bool) (xs ys : List CategoryValue) → length xs ≡ length ys
    → ((k : ℕ) → 1 ≤ k → k < length ys → p (entry_at xs k) ≡ p (entry_at ys k)) → number_where p xs ≡ number_where p ys
number_where-same p xs ys whole same = by_found (number_where p ys) refl
  where
    none : number_where p ys ≡ None → (o : Option ℕ) → number_where p xs ≡ o → o ≡ None
    none e None f = refl
    none e (Some j) f =
        let is = number_found p xs j f in
        let less : j < length ys = omega (arith, is.less, whole) in
        let no = sym (number_none p ys e j is.some less) ∙ sym (same j is.some less) ∙ is.passes in absurd cc

    by_found : (o : Option ℕ) → number_where p ys ≡ o → number_where p xs ≡ o
    by_found None e = none e (number_where p xs) refl
    by_found (Some j) e =
        let is = number_found p ys j e in
        number_is p xs j is.some (omega (arith, is.less, whole)) (same j is.some is.less ∙ is.passes)
        (λ k some below. same k some (omega (arith, is.less)) ∙ is.before k some below)

-- the same entries from number 1 on have labels, and the same ids
pub record HasSameIds (entries others : List CategoryValue) : Type 0 where
  pub whole : length entries ≡ 16
  pub label : (k : ℕ) → 1 ≤ k → k < 16 → has_label (entry_at entries k) ≡ has_label (entry_at others k)
  pub id : (k : ℕ) → 1 ≤ k → k < 16 → has_label (entry_at others k) ≡ true → (entry_at entries k).id ≡ (entry_at others k).id

bears_same : (entry other : CategoryValue) (id : ℕ) → has_label entry ≡ has_label other → (has_label other ≡ true → entry.id ≡ other.id)
    → bears id entry ≡ bears id other
bears_same entry other id label ids = by_label (has_label other) refl
  where
    by_label : (b : Bool) → has_label other ≡ b → bears id entry ≡ bears id other
    by_label true e = rw (label, e, ids e) refl
    by_label false e = rw (label, e) refl

pub of_id-same : (entries others : List CategoryValue) (id : ℕ) → HasSameIds entries others → length others ≡ 16 → of_id entries id ≡ of_id others id
unfolding of_id
of_id-same entries others id same whole =
    number_where-same (bears id) entries others (same.whole ∙ sym whole)
    (λ k some less. let few : k < 16 = omega arith in
    bears_same (entry_at entries k) (entry_at others k) id (same.label k some few) (same.id k some few))

-- ---- what the first round leaves

-- this number goes where its id stands, and where the desktop renamed it, its label stands there
pub record IsJoined (entries : List CategoryValue) (desktop : TableValue) (j p place : ℕ) : Type 0 where
  pub place_is : place ≡ p
  pub label : is_renamed desktop j ≡ true → (entry_at entries p).label ≡ label_at desktop j

pub record AreJoined (handheld desktop : TableValue) (k : ℕ) (m : MergingValue) : Type 0 where
  pub ids : HasSameIds m.entries handheld.entries
  pub clean : (i : ℕ) → 1 ≤ i → i < 16 → has_label (entry_at m.entries i) ≡ false → entry_at m.entries i ≡ no_entry
  pub whole : length m.places ≡ 16
  pub first : get_or m.places 0 0 ≡ 0
  pub done : (j p : ℕ) → 1 ≤ j → j ≤ k → is_used desktop.entries j ≡ true → of_id handheld.entries (id_at desktop j) ≡ Some p
      → IsJoined m.entries desktop j p (get_or m.places j 0)
  pub later : (j : ℕ) → k < j → j < 16 → get_or m.places j 0 ≡ 0
  pub unused : (j : ℕ) → 1 ≤ j → j < 16 → is_used desktop.entries j ≡ false → get_or m.places j 0 ≡ 0
  pub new : (j : ℕ) → 1 ≤ j → j < 16 → of_id handheld.entries (id_at desktop j) ≡ None → get_or m.places j 0 ≡ 0

-- ---- the beginning

kept-at : (entries : List CategoryValue) (k : ℕ) → k < 16 → entry_at (kept entries) k ≡ kept_at entries k
kept-at entries k less = get_or-map-range_with_len (kept_at entries) 0 16 k k no_entry less (omega arith)

pub begun_joined : (handheld desktop : TableValue) → AreJoined handheld desktop 0 (begun handheld)
begun_joined handheld desktop = record {
  ids = record { whole = length-map-range_with_len (kept_at es) 0 16; label = label; id = id };
  clean = clean;
  whole = refl;
  first = refl;
  done = λ j p some most. absurd (omega arith);
  later = λ j later less. zeros j;
  unused = λ j some less used. zeros j;
  new = λ j some less none. zeros j;
}
  where
    es : List CategoryValue
    es = handheld.entries

    zeros : (j : ℕ) → get_or (replicate {A = ℕ} 16 0) j 0 ≡ 0
    zeros j = grind (arith, common_steps)

    of_used : (k : ℕ) → (b : Bool) → is_used es k ≡ b → 1 ≤ k → has_label (kept_at es k) ≡ has_label (entry_at es k)
    of_used k true e some = rw e refl
    of_used k false e some = rw e (sym (sym (labelled_used es k some) ∙ e))

    label : (k : ℕ) → 1 ≤ k → k < 16 → has_label (entry_at (kept es) k) ≡ has_label (entry_at es k)
    label k some few = ap has_label (kept-at es k few) ∙ of_used k (is_used es k) refl some

    id : (k : ℕ) → 1 ≤ k → k < 16 → has_label (entry_at es k) ≡ true → (entry_at (kept es) k).id ≡ (entry_at es k).id
    id k some few labelled =
        let used = labelled_used es k some ∙ labelled in
        ap (λ (e : CategoryValue). e.id) (kept-at es k few) ∙ rw used refl

    of_clean : (k : ℕ) → (b : Bool) → is_used es k ≡ b → 1 ≤ k → has_label (kept_at es k) ≡ false → kept_at es k ≡ no_entry
    of_clean k true e some none =
        let yes = sym (labelled_used es k some) ∙ e in
        let no = sym yes ∙ sym (of_used k true e some) ∙ none in absurd cc
    of_clean k false e some none = rw e refl

    clean : (k : ℕ) → 1 ≤ k → k < 16 → has_label (entry_at (kept es) k) ≡ false → entry_at (kept es) k ≡ no_entry
    clean k some few none = kept-at es k few ∙ of_clean k (is_used es k) refl some (ap has_label (sym (kept-at es k few)) ∙ none)
