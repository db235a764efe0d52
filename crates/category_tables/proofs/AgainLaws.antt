-- A table that a desktop's is merged into once more: it stays, and so does each number.
use Rattle.std.proofs.Common.{arith, ◌≡◌, ◌≢◌, ◌∙◌, ap, inl, inr, refl, sym, ℕ, zero, suc, ◌<◌, ◌≤◌, ◌==◌, ◌+◌}
use Rattle.std.proofs.Common.{Bool, true, false, cond, List, Option, None, Some, get_or, get_or-set_other, get_or-set_same, length, replicate}
use Rattle.std.proofs.Math.ListN.{set}
use Rattle.std.proofs.lemmas.Grind.{common_steps}
use Rattle.std.proofs.lemmas.Bool.Decides.{nat_tests}
use Rattle.std.proofs.lemmas.List.{ext_get_or, length-set, set-get_or}
use Rattle.category_tables.specs.Tables.{CategoryValue, TableValue, entry_at, is_renamed, is_used, no_entry}
use Rattle.category_tables.specs.Merges.{MergingValue, begun, by_id, by_label, is_new, joined, kept, labelled, merging, of_id}
use Rattle.category_tables.specs.Merges.{relabelled, rounds, with_label}
use Rattle.category_tables.proofs.Settled.{AreSettled, IsHomeless, IsLabelled, IsSettled, IsThere, id_at, label_at}

-- ---- one number by its id

abbrev or_zero : Option ℕ → ℕ
or_zero None = 0
or_zero (Some p) = p

-- where its id stands
abbrev place_by_id : List CategoryValue → TableValue → ℕ → ℕ
place_by_id entries desktop j = cond (is_used desktop.entries j) (or_zero (of_id entries (id_at desktop j))) 0

-- the label that a renamed number would write stands there already
abbrev HasLabel : List CategoryValue → TableValue → ℕ → Type 0
HasLabel entries desktop j = (p : ℕ) → is_used desktop.entries j ≡ true → of_id entries (id_at desktop j) ≡ Some p → is_renamed desktop j ≡ true
    → (entry_at entries p).label ≡ label_at desktop j

same_label : (entries : List CategoryValue) (desktop : TableValue) (j p : ℕ) → (is_renamed desktop j ≡ true → (entry_at entries p).label ≡ label_at desktop j)
    → with_label desktop j p entries ≡ entries
same_label entries desktop j p same = by_flag (is_renamed desktop j) refl
  where
    by_flag : (b : Bool) → is_renamed desktop j ≡ b → with_label desktop j p entries ≡ entries
    by_flag true e =
        rw e (ap (λ (l : List ℕ). set entries p (relabelled l (entry_at entries p))) (sym (same e)) ∙ set-get_or entries p no_entry)
    by_flag false e = rw e refl

-- what a round leaves as it is, and the place that it gives
pub record Stays (entries : List CategoryValue) (j place : ℕ) (old new : MergingValue) : Type 0 where
  pub same : new.entries ≡ entries
  pub whole : length new.places ≡ 16
  pub here : get_or new.places j 0 ≡ place
  pub others : (k : ℕ) → k ≢ j → get_or new.places k 0 ≡ get_or old.places k 0

unmoved : (entries : List CategoryValue) (j : ℕ) (m : MergingValue) → m.entries ≡ entries → length m.places ≡ 16 → Stays entries j (get_or m.places j 0) m m
unmoved entries j m are whole = record { same = are; whole = whole; here = refl; others = λ k ne. refl }

by_id_stays : (t desktop : TableValue) (j : ℕ) (m : MergingValue) → HasLabel t.entries desktop j → j < 16 → m.entries ≡ t.entries → length m.places ≡ 16
    → get_or m.places j 0 ≡ 0 → Stays t.entries j (place_by_id t.entries desktop j) m (by_id t desktop j m)
unfolding by_id
by_id_stays t desktop j m has few are whole none = by_use (is_used desktop.entries j) refl
  where
    by_place : (o : Option ℕ) → is_used desktop.entries j ≡ true → of_id t.entries (id_at desktop j) ≡ o → Stays t.entries j (or_zero o) m (joined desktop j o m)
    by_place None used e = record { same = are; whole = whole; here = none; others = λ k ne. refl }
    by_place (Some p) used e =
        let less : j < length m.places = omega arith in
        record {
          same = rw are (same_label t.entries desktop j p (has p used e));
          whole = simp length-set whole;
          here = rw get_or-set_same refl;
          others = λ k ne. rw get_or-set_other refl;
        }

    by_use : (b : Bool) → is_used desktop.entries j ≡ b → Stays t.entries j (place_by_id t.entries desktop j) m (by_id t desktop j m)
    by_use true used = rw used (by_place (of_id t.entries (id_at desktop j)) used refl)
    by_use false used = rw used (record { same = are; whole = whole; here = none; others = λ k ne. refl })

-- ---- one number by its label

-- it stays where it was put by its id
stays_there : (t desktop : TableValue) (j p : ℕ) (m : MergingValue) → IsThere t.entries desktop j p → is_used desktop.entries j ≡ true → m.entries ≡ t.entries
    → length m.places ≡ 16 → get_or m.places j 0 ≡ place_by_id t.entries desktop j → Stays t.entries j p m (by_label t desktop j m)
unfolding by_label is_new
stays_there t desktop j p m is used are whole placed =
    let at = placed ∙ by_place is used in
    rw (used, is.id) (record { same = are; whole = whole; here = at; others = λ k ne. refl })
  where
    by_place : IsThere t.entries desktop j p → is_used desktop.entries j ≡ true → place_by_id t.entries desktop j ≡ p
    by_place is used = rw (used, is.id) refl

goes_to_label : (t desktop : TableValue) (j p : ℕ) (m : MergingValue) → IsLabelled t.entries desktop j p → is_used desktop.entries j ≡ true → j < 16
    → m.entries ≡ t.entries → length m.places ≡ 16 → Stays t.entries j p m (by_label t desktop j m)
unfolding by_label is_new
goes_to_label t desktop j p m is used few are whole =
    let less : j < length m.places = omega arith in
    rw (used, is.id, are, is.label)
    (record { same = refl; whole = simp length-set whole; here = rw get_or-set_same refl; others = λ k ne. rw get_or-set_other refl })

stays_homeless : (t desktop : TableValue) (j p : ℕ) (m : MergingValue) → IsHomeless t.entries desktop j p → is_used desktop.entries j ≡ true
    → m.entries ≡ t.entries → length m.places ≡ 16 → get_or m.places j 0 ≡ place_by_id t.entries desktop j → Stays t.entries j p m (by_label t desktop j m)
unfolding by_label is_new
stays_homeless t desktop j p m is used are whole placed =
    let at = placed ∙ by_place is used in
    rw (used, is.id, are, is.label, is.full) (record { same = refl; whole = whole; here = at; others = λ k ne. refl })
  where
    by_place : IsHomeless t.entries desktop j p → is_used desktop.entries j ≡ true → place_by_id t.entries desktop j ≡ p
    by_place is used = rw (used, is.id, is.place) refl

stays_unused : (t desktop : TableValue) (j p : ℕ) (m : MergingValue) → p ≡ 0 → is_used desktop.entries j ≡ false → m.entries ≡ t.entries
    → length m.places ≡ 16 → get_or m.places j 0 ≡ place_by_id t.entries desktop j → Stays t.entries j p m (by_label t desktop j m)
unfolding by_label is_new
stays_unused t desktop j p m none used are whole placed =
    let at = placed ∙ by_place none used in
    rw used (record { same = are; whole = whole; here = at; others = λ k ne. refl })
  where
    by_place : p ≡ 0 → is_used desktop.entries j ≡ false → place_by_id t.entries desktop j ≡ p
    by_place none used = rw (used, none) refl

by_label_stays : (t desktop : TableValue) (places : List ℕ) (j : ℕ) (m : MergingValue) → AreSettled t.entries desktop places → 1 ≤ j → j < 16
    → m.entries ≡ t.entries → length m.places ≡ 16 → get_or m.places j 0 ≡ place_by_id t.entries desktop j
    → Stays t.entries j (get_or places j 0) m (by_label t desktop j m)
by_label_stays t desktop places j m settled some few are whole placed = by_use (is_used desktop.entries j) refl
  where
    of_used : is_used desktop.entries j ≡ true → IsSettled t.entries desktop j (get_or places j 0) → Stays t.entries j (get_or places j 0) m (by_label t desktop j m)
    of_used used (inl there) = stays_there t desktop j (get_or places j 0) m there used are whole placed
    of_used used (inr (inl labelled)) = goes_to_label t desktop j (get_or places j 0) m labelled used few are whole
    of_used used (inr (inr homeless)) = stays_homeless t desktop j (get_or places j 0) m homeless used are whole placed

    by_use : (b : Bool) → is_used desktop.entries j ≡ b → Stays t.entries j (get_or places j 0) m (by_label t desktop j m)
    by_use true used = of_used used (settled.used j some few used)
    by_use false used = stays_unused t desktop j (get_or places j 0) m (settled.other j some few used) used are whole placed

-- ---- all numbers

has_label : (entries : List CategoryValue) (desktop : TableValue) (places : List ℕ) (j : ℕ) → AreSettled entries desktop places → 1 ≤ j → j < 16
    → HasLabel entries desktop j
has_label entries desktop places j settled some few p used at renamed = of_settled (settled.used j some few used)
  where
    one_place : (o : Option ℕ) (q : ℕ) → o ≡ Some q → o ≡ Some p → q ≡ p
    one_place o q e f = grind arith

    of_settled : IsSettled entries desktop j (get_or places j 0) → (entry_at entries p).label ≡ label_at desktop j
    of_settled (inl there) =
        ap (λ k. (entry_at entries k).label) (sym (one_place (of_id entries (id_at desktop j)) (get_or places j 0) there.id at)) ∙ there.label renamed
    of_settled (inr (inl labelled)) = let no = sym labelled.id ∙ at in absurd cc
    of_settled (inr (inr homeless)) = let no = sym homeless.id ∙ at in absurd cc

-- the numbers up to this one have these places, and those behind it the old ones
pub record AreDone (entries : List CategoryValue) (k : ℕ) (given before : ℕ → ℕ) (m : MergingValue) : Type 0 where
  pub same : m.entries ≡ entries
  pub whole : length m.places ≡ 16
  pub first : get_or m.places 0 0 ≡ 0
  pub done : (j : ℕ) → 1 ≤ j → j ≤ k → get_or m.places j 0 ≡ given j
  pub left : (j : ℕ) → k < j → j < 16 → get_or m.places j 0 ≡ before j

-- one number more
one_more : (entries : List CategoryValue) (k : ℕ) (given before : ℕ → ℕ) (old new : MergingValue) → k + 1 < 16 → AreDone entries k given before old
    → Stays entries (suc k) (given (suc k)) old new → AreDone entries (suc k) given before new
one_more entries k given before old new few done stays = record {
  same = stays.same;
  whole = stays.whole;
  first = stays.others 0 (omega arith) ∙ done.first;
  done = λ j some most. by_turn j some most (j == suc k) refl;
  left = λ j later less. stays.others j (omega arith) ∙ done.left j (omega arith) less;
}
  where
    by_turn : (j : ℕ) → 1 ≤ j → j ≤ suc k → (b : Bool) → (j == suc k) ≡ b → get_or new.places j 0 ≡ given j
    by_turn j some most true e = let same : j ≡ suc k = grind (arith, nat_tests) in rw same stays.here
    by_turn j some most false e =
        let ne : j ≢ suc k = grind (arith, nat_tests) in
        stays.others j ne ∙ done.done j some (omega arith)

no_places : (j : ℕ) → get_or (replicate {A = ℕ} 16 0) j 0 ≡ 0
no_places j = grind (arith, common_steps)

by_ids : (t desktop : TableValue) (places : List ℕ) (k : ℕ) → AreSettled t.entries desktop places → kept t.entries ≡ t.entries → k < 16
    → AreDone t.entries k (place_by_id t.entries desktop) (λ j. 0) (rounds (by_id t desktop) k (begun t))
unfolding rounds
by_ids t desktop places zero settled clean few = record {
  same = clean;
  whole = refl;
  first = refl;
  done = λ j some most. absurd (omega arith);
  left = λ j later less. no_places j;
}
by_ids t desktop places (suc k) settled clean few =
    let done = by_ids t desktop places k settled clean (omega arith) in
    one_more t.entries k (place_by_id t.entries desktop) (λ j. 0) _ _ (omega arith) done
    (by_id_stays t desktop (suc k) _ (has_label t.entries desktop places (suc k) settled (omega arith) few) few done.same done.whole
    (done.left (suc k) (omega arith) few))

by_labels : (t desktop : TableValue) (places : List ℕ) (k : ℕ) (m : MergingValue) → AreSettled t.entries desktop places → k < 16
    → AreDone t.entries 15 (place_by_id t.entries desktop) (λ j. 0) m
    → AreDone t.entries k (λ j. get_or places j 0) (place_by_id t.entries desktop) (rounds (by_label t desktop) k m)
unfolding rounds
by_labels t desktop places zero m settled few done = record {
  same = done.same;
  whole = done.whole;
  first = done.first;
  done = λ j some most. absurd (omega arith);
  left = λ j later less. done.done j (omega arith) (omega arith);
}
by_labels t desktop places (suc k) m settled few begun =
    let done = by_labels t desktop places k m settled (omega arith) begun in
    one_more t.entries k (λ j. get_or places j 0) (place_by_id t.entries desktop) _ _ (omega arith) done
    (by_label_stays t desktop places (suc k) _ settled (omega arith) few done.same done.whole (done.left (suc k) (omega arith) few))

of_parts : (entries : List CategoryValue) (places : List ℕ) (m : MergingValue) → m.entries ≡ entries → m.places ≡ places → m ≡ record { entries = entries; places = places }
of_parts entries places m e f = rw (← e, ← f) refl

-- a settled table stays, and so do the places
pub stays_settled : (t desktop : TableValue) (places : List ℕ) → AreSettled t.entries desktop places → kept t.entries ≡ t.entries
    → merging t desktop ≡ record { entries = t.entries; places = places }
unfolding merging
stays_settled t desktop places settled clean =
    let first = by_ids t desktop places 15 settled clean (omega arith) in
    let done = by_labels t desktop places 15 _ settled (omega arith) first in
    of_parts t.entries places _ done.same (ext_get_or 0 _ places (done.whole ∙ sym settled.whole) (λ j less. by_number j done (omega (arith, done.whole))))
  where
    by_number : {m : MergingValue} (j : ℕ) → AreDone t.entries 15 (λ j. get_or places j 0) (place_by_id t.entries desktop) m → j < 16
        → get_or m.places j 0 ≡ get_or places j 0
    by_number zero done less = done.first ∙ sym settled.first
    by_number (suc j) done less = done.done (suc j) (omega arith) (omega arith)
