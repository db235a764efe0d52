-- The first round, number by number.
use Rattle.std.proofs.Common.{arith, ◌≡◌, ◌≢◌, ◌⊎◌, ◌∙◌, ap, inl, inr, refl, sym, subst, ℕ, zero, suc, ◌<◌, ◌≤◌, ◌==◌, ◌+◌}
use Rattle.std.proofs.Common.{Bool, true, false, List, Option, None, Some, get_or, get_or-set_other, get_or-set_same, length}
use Rattle.std.proofs.Math.ListN.{set}
use Rattle.std.proofs.lemmas.Bool.{and_parts}
use Rattle.std.proofs.lemmas.Bool.Decides.{nat_tests}
use Rattle.std.proofs.lemmas.List.{length-set}
use Rattle.category_tables.specs.Tables.{CategoryValue, IsTable, TableValue, entry_at, has_label, is_renamed, is_used, no_entry}
use Rattle.category_tables.specs.Merges.{MergingValue, begun, by_id, joined, of_id, relabelled, rounds, with_label}
use Rattle.category_tables.proofs.ByIdLaws.{AreJoined, HasSameIds, IsJoined, begun_joined}
use Rattle.category_tables.proofs.FoundLaws.{number_found}
use Rattle.category_tables.proofs.OwnedLaws.{bears, labelled_used}
use Rattle.category_tables.proofs.Settled.{id_at, label_at}

-- an entry that bears an id
pub record DoesBear (entries : List CategoryValue) (id p : ℕ) : Type 0 where
  pub some : 1 ≤ p
  pub less : p < length entries
  pub labelled : has_label (entry_at entries p) ≡ true
  pub id_is : (entry_at entries p).id ≡ id

pub bears_found : (entries : List CategoryValue) (id p : ℕ) → of_id entries id ≡ Some p → DoesBear entries id p
unfolding of_id
bears_found entries id p e =
    let is = number_found (bears id) entries p e in
    let parts = and_parts (has_label (entry_at entries p)) ((entry_at entries p).id == id) is.passes in
    record { some = is.some; less = is.less; labelled = parts.0; id_is = grind (arith, nat_tests, parts.1) }

-- ids of the desktop differ
pub ids_differ : (desktop : TableValue) (i j : ℕ) → IsTable desktop → 1 ≤ i → i < 16 → 1 ≤ j → j < 16 → is_used desktop.entries i ≡ true
    → is_used desktop.entries j ≡ true → i ≢ j → id_at desktop i ≢ id_at desktop j
ids_differ desktop i j is some few other less one two ne same = by_order (order i j ne)
  where
    order : (i j : ℕ) → i ≢ j → (i < j) ⊎ (j < i)
    order i j ne = grind arith

    by_order : (i < j) ⊎ (j < i) → ⊥
    by_order (inl before) = is.apart i j some before less one two same
    by_order (inr behind) = is.apart j i other behind few two one (sym same)

-- a label is written where its number's id stands
relabelled_joined : (handheld desktop : TableValue) (k p : ℕ) (m : MergingValue) → IsTable desktop → k + 1 < 16 → length handheld.entries ≡ 16
    → is_used desktop.entries (suc k) ≡ true → of_id handheld.entries (id_at desktop (suc k)) ≡ Some p → AreJoined handheld desktop k m
    → HasSameIds (with_label desktop (suc k) p m.entries) handheld.entries
relabelled_joined handheld desktop k p m is few whole used at joined = by_flag (is_renamed desktop (suc k)) refl
  where
    there : DoesBear handheld.entries (id_at desktop (suc k)) p
    there = bears_found handheld.entries (id_at desktop (suc k)) p at

    new : CategoryValue
    new = relabelled (label_at desktop (suc k)) (entry_at m.entries p)

    labelled : has_label new ≡ true
    labelled = sym (labelled_used desktop.entries (suc k) (omega arith)) ∙ used

    within : p < length m.entries
    within = omega (arith, there.less, joined.ids.whole)

    label : (i : ℕ) → (b : Bool) → (i == p) ≡ b → 1 ≤ i → i < 16 → has_label (entry_at (set m.entries p new) i) ≡ has_label (entry_at handheld.entries i)
    label i true e some less =
        let same : i ≡ p = grind (arith, nat_tests) in
        rw same (ap has_label (get_or-set_same m.entries p new no_entry within) ∙ labelled ∙ sym there.labelled)
    label i false e some less =
        let ne : i ≢ p = grind (arith, nat_tests) in
        ap has_label (get_or-set_other m.entries p i new no_entry ne) ∙ joined.ids.label i some less

    id : (i : ℕ) → (b : Bool) → (i == p) ≡ b → 1 ≤ i → i < 16 → has_label (entry_at handheld.entries i) ≡ true
        → (entry_at (set m.entries p new) i).id ≡ (entry_at handheld.entries i).id
    id i true e some less has =
        let same : i ≡ p = grind (arith, nat_tests) in
        rw same (ap (λ (e : CategoryValue). e.id) (get_or-set_same m.entries p new no_entry within) ∙ joined.ids.id p there.some (omega arith) there.labelled)
    id i false e some less has =
        let ne : i ≢ p = grind (arith, nat_tests) in
        ap (λ (e : CategoryValue). e.id) (get_or-set_other m.entries p i new no_entry ne) ∙ joined.ids.id i some less has

    by_flag : (b : Bool) → is_renamed desktop (suc k) ≡ b → HasSameIds (with_label desktop (suc k) p m.entries) handheld.entries
    by_flag true e = rw e (record {
      whole = simp length-set joined.ids.whole;
      label = λ i some less. label i (i == p) refl some less;
      id = λ i some less has. id i (i == p) refl some less has;
    })
    by_flag false e = rw e joined.ids

-- ---- one number more

-- nothing was written for a number that isn't used, or whose id the handheld has not
skipped : (handheld desktop : TableValue) (k : ℕ) (m : MergingValue)
    → ((p : ℕ) → is_used desktop.entries (suc k) ≡ true → of_id handheld.entries (id_at desktop (suc k)) ≡ Some p → ⊥)
    → AreJoined handheld desktop k m → AreJoined handheld desktop (suc k) m
skipped handheld desktop k m none joined = record {
  ids = joined.ids;
  clean = joined.clean;
  whole = joined.whole;
  first = joined.first;
  done = λ j p some most used at. by_turn j p (j == suc k) refl some most used at;
  later = λ j later less. joined.later j (omega arith) less;
  unused = joined.unused;
  new = joined.new;
}
  where
    by_turn : (j p : ℕ) → (b : Bool) → (j == suc k) ≡ b → 1 ≤ j → j ≤ suc k → is_used desktop.entries j ≡ true
        → of_id handheld.entries (id_at desktop j) ≡ Some p → IsJoined m.entries desktop j p (get_or m.places j 0)
    by_turn j p true e some most used at =
        let same : j ≡ suc k = grind (arith, nat_tests) in
        absurd (none p (subst (λ i. is_used desktop.entries i ≡ true) same used)
        (subst (λ i. of_id handheld.entries (id_at desktop i) ≡ Some p) same at))
    by_turn j p false e some most used at =
        let ne : j ≢ suc k = grind (arith, nat_tests) in
        joined.done j p some (omega arith) used at

-- an entry that another number's label was written to
label_kept : (desktop : TableValue) (k p q : ℕ) (entries : List CategoryValue) → q ≢ p → entry_at (with_label desktop k p entries) q ≡ entry_at entries q
label_kept desktop k p q entries ne = by_flag (is_renamed desktop k) refl
  where
    by_flag : (b : Bool) → is_renamed desktop k ≡ b → entry_at (with_label desktop k p entries) q ≡ entry_at entries q
    by_flag true e = rw e (get_or-set_other entries p q (relabelled (label_at desktop k) (entry_at entries p)) no_entry ne)
    by_flag false e = rw e refl

label_written : (desktop : TableValue) (k p : ℕ) (entries : List CategoryValue) → p < length entries → is_renamed desktop k ≡ true
    → (entry_at (with_label desktop k p entries) p).label ≡ label_at desktop k
label_written desktop k p entries less e =
    rw e (ap (λ (x : CategoryValue). x.label) (get_or-set_same entries p (relabelled (label_at desktop k) (entry_at entries p)) no_entry less))

put_joined : (handheld desktop : TableValue) (k p : ℕ) (m : MergingValue) → IsTable desktop → k + 1 < 16 → length handheld.entries ≡ 16
    → is_used desktop.entries (suc k) ≡ true → of_id handheld.entries (id_at desktop (suc k)) ≡ Some p → AreJoined handheld desktop k m
    → AreJoined handheld desktop (suc k) (joined desktop (suc k) (Some p) m)
put_joined handheld desktop k p m is few whole used at joined = record {
  ids = ids;
  clean = λ i some less none. clean i some less none (i == p) refl;
  whole = simp length-set joined.whole;
  first = get_or-set_other m.places (suc k) 0 p 0 (omega arith) ∙ joined.first;
  done = λ j q some most used at. done j q (j == suc k) refl some most used at;
  later = λ j later less. get_or-set_other m.places (suc k) j p 0 (omega arith) ∙ joined.later j (omega arith) less;
  unused = λ j some less none. get_or-set_other m.places (suc k) j p 0 (not_unused j none) ∙ joined.unused j some less none;
  new = λ j some less none. get_or-set_other m.places (suc k) j p 0 (not_new j none) ∙ joined.new j some less none;
}
  where
    ids : HasSameIds (with_label desktop (suc k) p m.entries) handheld.entries
    ids = relabelled_joined handheld desktop k p m is few whole used at joined

    there : DoesBear handheld.entries (id_at desktop (suc k)) p
    there = bears_found handheld.entries (id_at desktop (suc k)) p at

    not_unused : (j : ℕ) → is_used desktop.entries j ≡ false → j ≢ suc k
    not_unused j none same = let no = sym (subst (λ i. is_used desktop.entries i ≡ false) same none) ∙ used in absurd cc

    not_new : (j : ℕ) → of_id handheld.entries (id_at desktop j) ≡ None → j ≢ suc k
    not_new j none same = let no = sym (subst (λ i. of_id handheld.entries (id_at desktop i) ≡ None) same none) ∙ at in absurd cc

    clean : (i : ℕ) → 1 ≤ i → i < 16 → has_label (entry_at (with_label desktop (suc k) p m.entries) i) ≡ false → (b : Bool) → (i == p) ≡ b
        → entry_at (with_label desktop (suc k) p m.entries) i ≡ no_entry
    clean i some less none true e =
        let same : i ≡ p = grind (arith, nat_tests) in
        let has = ids.label i some less ∙ ap (λ n. has_label (entry_at handheld.entries n)) same ∙ there.labelled in
        let no = sym none ∙ has in absurd cc
    clean i some less none false e =
        let ne : i ≢ p = grind (arith, nat_tests) in
        let kept = label_kept desktop (suc k) p i m.entries ne in
        kept ∙ joined.clean i some less (ap has_label (sym kept) ∙ none)

    one_place : (q : ℕ) → of_id handheld.entries (id_at desktop (suc k)) ≡ Some q → q ≡ p
    one_place q f = let e = sym f ∙ at in grind arith

    differs : (j q : ℕ) → j ≢ suc k → 1 ≤ j → j ≤ suc k → is_used desktop.entries j ≡ true → of_id handheld.entries (id_at desktop j) ≡ Some q → q ≢ p
    differs j q ne some most other f same =
        let bears = bears_found handheld.entries (id_at desktop j) q f in
        ids_differ desktop j (suc k) is some (omega arith) (omega arith) (omega arith) other used ne
        (sym bears.id_is ∙ ap (λ n. (entry_at handheld.entries n).id) same ∙ there.id_is)

    done : (j q : ℕ) → (b : Bool) → (j == suc k) ≡ b → 1 ≤ j → j ≤ suc k → is_used desktop.entries j ≡ true
        → of_id handheld.entries (id_at desktop j) ≡ Some q
        → IsJoined (with_label desktop (suc k) p m.entries) desktop j q (get_or (set m.places (suc k) p) j 0)
    done j q true e some most other f =
        let same : j ≡ suc k = grind (arith, nat_tests) in
        let here : q ≡ p = one_place q (subst (λ i. of_id handheld.entries (id_at desktop i) ≡ Some q) same f) in
        rw (same, here) (record {
          place_is = get_or-set_same m.places (suc k) p 0 (omega (arith, joined.whole));
          label = λ renamed. label_written desktop (suc k) p m.entries (omega (arith, there.less, joined.ids.whole)) renamed;
        })
    done j q false e some most other f =
        let ne : j ≢ suc k = grind (arith, nat_tests) in
        let before = joined.done j q some (omega arith) other f in
        record {
          place_is = get_or-set_other m.places (suc k) j p 0 ne ∙ before.place_is;
          label = λ renamed. ap (λ (x : CategoryValue). x.label) (label_kept desktop (suc k) p q m.entries (differs j q ne some most other f)) ∙ before.label renamed;
        }

-- ---- all numbers

step_joined : (handheld desktop : TableValue) (k : ℕ) (m : MergingValue) → IsTable desktop → k + 1 < 16 → length handheld.entries ≡ 16
    → AreJoined handheld desktop k m → AreJoined handheld desktop (suc k) (by_id handheld desktop (suc k) m)
unfolding by_id
step_joined handheld desktop k m is few whole before = by_use (is_used desktop.entries (suc k)) refl
  where
    by_place : (o : Option ℕ) → is_used desktop.entries (suc k) ≡ true → of_id handheld.entries (id_at desktop (suc k)) ≡ o
        → AreJoined handheld desktop (suc k) (joined desktop (suc k) o m)
    by_place None used e = skipped handheld desktop k m (λ p u f. let no = sym e ∙ f in cc) before
    by_place (Some p) used e = put_joined handheld desktop k p m is few whole used e before

    by_use : (b : Bool) → is_used desktop.entries (suc k) ≡ b → AreJoined handheld desktop (suc k) (by_id handheld desktop (suc k) m)
    by_use true used = rw used (by_place (of_id handheld.entries (id_at desktop (suc k))) used refl)
    by_use false used = rw used (skipped handheld desktop k m (λ p u f. let no = sym used ∙ u in cc) before)

pub all_joined : (handheld desktop : TableValue) (k : ℕ) → IsTable desktop → k < 16 → length handheld.entries ≡ 16
    → AreJoined handheld desktop k (rounds (by_id handheld desktop) k (begun handheld))
unfolding rounds
all_joined handheld desktop zero is few whole = begun_joined handheld desktop
all_joined handheld desktop (suc k) is few whole =
    step_joined handheld desktop k _ is (omega arith) whole (all_joined handheld desktop k is (omega arith) whole)
