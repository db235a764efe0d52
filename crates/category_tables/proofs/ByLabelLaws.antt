-- The second round, number by number: a number that is new goes to its label, or fills an unused entry.
use Rattle.std.proofs.Common.{arith, ◌≡◌, ◌≢◌, ◌⊎◌, ◌∙◌, ap, inl, inr, refl, sym, subst, ℕ, zero, suc, ◌<◌, ◌≤◌, ◌==◌, ◌&&◌, ◌||◌}
use Rattle.std.proofs.Common.{Bool, true, false, List, Option, None, Some, get_or, get_or-set_other, get_or-set_same, is_none, length, not}
use Rattle.std.proofs.Math.ListN.{set}
use Rattle.std.proofs.lemmas.Bool.Decides.{nat_tests}
use Rattle.std.proofs.lemmas.List.{length-set}
use Rattle.std.specs.Str.{bytes_eq}
use Rattle.category_tables.specs.Tables.{CategoryValue, IsTable, TableValue, entry_at, has_label, is_used, no_entry}
use Rattle.category_tables.specs.Merges.{MergingValue, by_label, filled, is_new, labelled, merging, of_id, of_label, rounds, unused}
use Rattle.category_tables.proofs.ByIdLaws.{AreJoined, HasSameIds, of_id-same}
use Rattle.category_tables.proofs.FoundLaws.{number_none}
use Rattle.category_tables.proofs.JoinedLaws.{all_joined, bears_found, ids_differ}
use Rattle.category_tables.proofs.OwnedLaws.{bears, bears_not, labelled_used}
use Rattle.category_tables.proofs.SetLaws.{IsFree, free_at, of_id-new, of_id-set, of_label-set}
use Rattle.category_tables.proofs.Settled.{IsSettled, IsThere, id_at, label_at}
use Rattle.pdb_values.proofs.NamedLaws.{bytes_eq-is}

-- the entries alone
abbrev pub table_with : List CategoryValue → TableValue
table_with entries = record { flags = 0; entries = entries; last = 0 }

-- up to this number all stand where the places say
pub record ArePlaced (handheld desktop : TableValue) (k : ℕ) (m : MergingValue) : Type 0 where
  pub table : IsTable (table_with m.entries)
  pub clean : (i : ℕ) → 1 ≤ i → i < 16 → has_label (entry_at m.entries i) ≡ false → entry_at m.entries i ≡ no_entry
  pub whole : length m.places ≡ 16
  pub first : get_or m.places 0 0 ≡ 0
  pub settled : (j : ℕ) → 1 ≤ j → j < 16 → is_used desktop.entries j ≡ true → (is_new handheld desktop j ≡ false) ⊎ (j ≤ k)
      → IsSettled m.entries desktop j (get_or m.places j 0)
  pub new : (j : ℕ) → k < j → j < 16 → is_new handheld desktop j ≡ true → (of_id m.entries (id_at desktop j) ≡ None) × (get_or m.places j 0 ≡ 0)
  pub other : (j : ℕ) → 1 ≤ j → j < 16 → is_used desktop.entries j ≡ false → get_or m.places j 0 ≡ 0
  pub known : (j p : ℕ) → 1 ≤ j → j < 16 → is_used desktop.entries j ≡ true → of_id handheld.entries (id_at desktop j) ≡ Some p
      → get_or m.places j 0 ≡ p

-- ---- what is new, and what isn't

new_used : (handheld desktop : TableValue) (j : ℕ) → is_new handheld desktop j ≡ true
    → (is_used desktop.entries j ≡ true) × (of_id handheld.entries (id_at desktop j) ≡ None)
unfolding is_new
new_used handheld desktop j e = by_parts (is_used desktop.entries j) (of_id handheld.entries (id_at desktop j)) refl refl e
  where
    by_parts : (b : Bool) (o : Option ℕ) → is_used desktop.entries j ≡ b → of_id handheld.entries (id_at desktop j) ≡ o → (b && is_none o) ≡ true
        → (is_used desktop.entries j ≡ true) × (of_id handheld.entries (id_at desktop j) ≡ None)
    by_parts true None used none e = (used, none)
    by_parts true (Some p) used some e = absurd cc
    by_parts false o used at e = absurd cc

old_there : (handheld desktop : TableValue) (j : ℕ) → is_new handheld desktop j ≡ false → is_used desktop.entries j ≡ true
    → (p : ℕ) × (of_id handheld.entries (id_at desktop j) ≡ Some p)
unfolding is_new
old_there handheld desktop j e used = by_parts (of_id handheld.entries (id_at desktop j)) refl (ap (λ b. b && is_none (of_id handheld.entries (id_at desktop j))) (sym used) ∙ e)
  where
    by_parts : (o : Option ℕ) → of_id handheld.entries (id_at desktop j) ≡ o → (true && is_none (of_id handheld.entries (id_at desktop j))) ≡ false
        → (p : ℕ) × (of_id handheld.entries (id_at desktop j) ≡ Some p)
    by_parts None at f = absurd (let no = ap (λ o. true && is_none o) (sym at) ∙ f in cc)
    by_parts (Some p) at f = (p, at)

-- ---- the beginning of the round

joined_table : (handheld desktop : TableValue) (m : MergingValue) → IsTable handheld → HasSameIds m.entries handheld.entries → IsTable (table_with m.entries)
joined_table handheld desktop m is same = record {
  whole = same.whole;
  given = λ j some few used none.
      is.given j some few (old j some few used) (sym (same.id j some few (label j some few used)) ∙ none);
  apart = λ i j some less few one two ids.
      is.apart i j some less few (old i some (omega arith) one) (old j (omega arith) few two)
      (sym (same.id i some (omega arith) (label i some (omega arith) one)) ∙ ids ∙ same.id j (omega arith) few (label j (omega arith) few two));
}
  where
    label : (i : ℕ) → 1 ≤ i → i < 16 → is_used m.entries i ≡ true → has_label (entry_at handheld.entries i) ≡ true
    label i some few used = sym (same.label i some few) ∙ sym (labelled_used m.entries i some) ∙ used

    old : (i : ℕ) → 1 ≤ i → i < 16 → is_used m.entries i ≡ true → is_used handheld.entries i ≡ true
    old i some few used = labelled_used handheld.entries i some ∙ label i some few used

begun_placed : (handheld desktop : TableValue) (m : MergingValue) → IsTable handheld → AreJoined handheld desktop 15 m → ArePlaced handheld desktop 0 m
begun_placed handheld desktop m is joined = record {
  table = joined_table handheld desktop m is joined.ids;
  clean = joined.clean;
  whole = joined.whole;
  first = joined.first;
  settled = settled;
  new = λ j later less e.
      let none = (new_used handheld desktop j e).1 in
      (of_id-same m.entries handheld.entries (id_at desktop j) joined.ids is.whole ∙ none, joined.new j (omega arith) less none);
  other = joined.unused;
  known = λ j p some few used at. (joined.done j p some (omega arith) used at).place_is;
}
  where
    there : (j : ℕ) → 1 ≤ j → j < 16 → is_used desktop.entries j ≡ true → is_new handheld desktop j ≡ false → IsThere m.entries desktop j (get_or m.places j 0)
    there j some few used old =
        let at = old_there handheld desktop j old used in
        let done = joined.done j at.0 some (omega arith) used at.1 in
        record {
          id = of_id-same m.entries handheld.entries (id_at desktop j) joined.ids is.whole ∙ at.1 ∙ ap (λ p. Some p) (sym done.place_is);
          label = λ renamed. ap (λ p. (entry_at m.entries p).label) done.place_is ∙ done.label renamed;
        }

    settled : (j : ℕ) → 1 ≤ j → j < 16 → is_used desktop.entries j ≡ true → (is_new handheld desktop j ≡ false) ⊎ (j ≤ 0)
        → IsSettled m.entries desktop j (get_or m.places j 0)
    settled j some few used (inl old) = inl (there j some few used old)
    settled j some few used (inr most) = absurd (omega arith)

-- ---- a number that fills an unused entry

-- no label is that of an entry without one
not_same : (entry other : CategoryValue) → has_label entry ≡ false → has_label other ≡ true → bytes_eq entry.label other.label ≡ false
not_same entry other none some = by_test (bytes_eq entry.label other.label) refl
  where
    by_test : (b : Bool) → bytes_eq entry.label other.label ≡ b → b ≡ false
    by_test true e =
        let same = ap (λ (l : List ℕ). not (length l == 0)) (bytes_eq-is entry.label other.label e) in
        let no = sym none ∙ same ∙ some in absurd cc
    by_test false e = refl

-- what is written, and where: a number's entry, whose id and whose label stood nowhere, into an unused one
pub record Fills (desktop : TableValue) (j i : ℕ) (entries : List CategoryValue) : Type 0 where
  pub some : 1 ≤ j
  pub few : j < 16
  pub used : is_used desktop.entries j ≡ true
  pub id : of_id entries (id_at desktop j) ≡ None
  pub label : of_label entries (label_at desktop j) ≡ None
  pub free : unused entries ≡ Some i

pub labelled_at : (desktop : TableValue) (j : ℕ) → 1 ≤ j → is_used desktop.entries j ≡ true → has_label (entry_at desktop.entries j) ≡ true
labelled_at desktop j some used = sym (labelled_used desktop.entries j some) ∙ used

-- another id is found as before
id_still : (desktop : TableValue) (j i k : ℕ) (entries : List CategoryValue) → IsTable desktop → Fills desktop j i entries → 1 ≤ k → k < 16
    → is_used desktop.entries k ≡ true → k ≢ j → of_id (set entries i (entry_at desktop.entries j)) (id_at desktop k) ≡ of_id entries (id_at desktop k)
id_still desktop j i k entries is fills some few used ne =
    let free = free_at entries i fills.free in
    let mine = bears_not (entry_at desktop.entries j) (id_at desktop k)
    (λ e. ids_differ desktop j k is fills.some fills.few some few fills.used used (λ same. ne (sym same))) in
    let empty = bears_not (entry_at entries i) (id_at desktop k) (λ e. absurd (let no = sym free.empty ∙ e in cc)) in
    of_id-set entries (id_at desktop k) i (entry_at desktop.entries j) free.some (mine ∙ sym empty)

-- another label is found as before, where it stands
label_still : (desktop : TableValue) (j i k p : ℕ) (entries : List CategoryValue) → Fills desktop j i entries → 1 ≤ k → is_used desktop.entries k ≡ true
    → of_label entries (label_at desktop k) ≡ Some p
    → of_label (set entries i (entry_at desktop.entries j)) (label_at desktop k) ≡ of_label entries (label_at desktop k)
label_still desktop j i k p entries fills some used at =
    of_label-set entries (label_at desktop k) i (entry_at desktop.entries j) (mine ∙ sym empty)
  where
    of_test : (b : Bool) → bytes_eq (label_at desktop j) (label_at desktop k) ≡ b → b ≡ false
    of_test true e =
        let same = bytes_eq-is (label_at desktop j) (label_at desktop k) e in
        let no = sym fills.label ∙ ap (of_label entries) same ∙ at in absurd cc
    of_test false e = refl

    mine : bytes_eq (label_at desktop j) (label_at desktop k) ≡ false
    mine = of_test (bytes_eq (label_at desktop j) (label_at desktop k)) refl

    empty : bytes_eq (entry_at entries i).label (label_at desktop k) ≡ false
    empty = not_same (entry_at entries i) (entry_at desktop.entries k) (free_at entries i fills.free).empty (labelled_at desktop k some used)

-- what stood stands
settled_still : (desktop : TableValue) (j i k place : ℕ) (entries : List CategoryValue) → IsTable desktop → Fills desktop j i entries → 1 ≤ k → k < 16
    → is_used desktop.entries k ≡ true → k ≢ j → IsSettled entries desktop k place → IsSettled (set entries i (entry_at desktop.entries j)) desktop k place
settled_still desktop j i k place entries is fills some few used ne (inl there) =
    let bears = bears_found entries (id_at desktop k) place there.id in
    let free = free_at entries i fills.free in
    let apart : place ≢ i = λ same. let no = sym free.empty ∙ ap (λ n. has_label (entry_at entries n)) (sym same) ∙ bears.labelled in cc in
    inl (record {
      id = id_still desktop j i k entries is fills some few used ne ∙ there.id;
      label = λ renamed. ap (λ (x : CategoryValue). x.label) (get_or-set_other entries i place (entry_at desktop.entries j) no_entry apart) ∙ there.label renamed;
    })
settled_still desktop j i k place entries is fills some few used ne (inr (inl labelled)) =
    inr (inl (record {
      id = id_still desktop j i k entries is fills some few used ne ∙ labelled.id;
      label = label_still desktop j i k place entries fills some used labelled.label ∙ labelled.label;
    }))
settled_still desktop j i k place entries is fills some few used ne (inr (inr homeless)) =
    let no = sym homeless.full ∙ fills.free in absurd cc

-- the number itself stands there
settled_now : (desktop : TableValue) (j i : ℕ) (entries : List CategoryValue) → Fills desktop j i entries → IsSettled (set entries i (entry_at desktop.entries j)) desktop j i
settled_now desktop j i entries fills =
    let free = free_at entries i fills.free in
    inl (record {
      id = of_id-new entries i (entry_at desktop.entries j) free.some free.less (labelled_at desktop j fills.some fills.used) fills.id;
      label = λ renamed. ap (λ (x : CategoryValue). x.label) (get_or-set_same entries i (entry_at desktop.entries j) no_entry free.less);
    })

-- ids that differ, and one that none bore
filled_table : (desktop : TableValue) (j i : ℕ) (entries : List CategoryValue) → IsTable desktop → Fills desktop j i entries → IsTable (table_with entries)
    → IsTable (table_with (set entries i (entry_at desktop.entries j)))
unfolding of_id
filled_table desktop j i entries is fills table = record {
  whole = simp length-set table.whole;
  given = λ k some few used. given k some few used (k == i) refl;
  apart = λ one other some less few used1 used2. apart one other some less few used1 used2 (one == i) refl (other == i) refl;
}
  where
    new : CategoryValue
    new = entry_at desktop.entries j

    free : IsFree entries i
    free = free_at entries i fills.free

    at : (k : ℕ) → k ≢ i → entry_at (set entries i new) k ≡ entry_at entries k
    at k ne = get_or-set_other entries i k new no_entry ne

    here : entry_at (set entries i new) i ≡ new
    here = get_or-set_same entries i new no_entry free.less

    still : (k : ℕ) → k ≢ i → is_used (set entries i new) k ≡ true → is_used entries k ≡ true
    still k ne used = ap (λ (e : CategoryValue). (k == 0) || has_label e) (sym (at k ne)) ∙ used

    -- an entry that was used has another id
    differs : (k : ℕ) → 1 ≤ k → k < 16 → k ≢ i → is_used (set entries i new) k ≡ true → (entry_at entries k).id ≢ new.id
    differs k some few ne used same =
        let labelled = sym (labelled_used entries k some) ∙ still k ne used in
        let none = number_none (bears new.id) entries fills.id k some (omega (arith, table.whole)) in
        let borne : bears new.id (entry_at entries k) ≡ true = rw (labelled, same) (grind (arith, nat_tests)) in
        let no = sym none ∙ borne in cc

    given : (k : ℕ) → 1 ≤ k → k < 16 → is_used (set entries i new) k ≡ true → (b : Bool) → (k == i) ≡ b → (entry_at (set entries i new) k).id ≢ 0
    given k some few used true e none =
        let same : k ≡ i = grind (arith, nat_tests) in
        is.given j fills.some fills.few fills.used (ap (λ (x : CategoryValue). x.id) (sym here ∙ ap (entry_at (set entries i new)) (sym same)) ∙ none)
    given k some few used false e none =
        let ne : k ≢ i = grind (arith, nat_tests) in
        table.given k some few (still k ne used) (ap (λ (x : CategoryValue). x.id) (sym (at k ne)) ∙ none)

    apart : (one other : ℕ) → 1 ≤ one → one < other → other < 16 → is_used (set entries i new) one ≡ true → is_used (set entries i new) other ≡ true
        → (b : Bool) → (one == i) ≡ b → (c : Bool) → (other == i) ≡ c → (entry_at (set entries i new) one).id ≢ (entry_at (set entries i new) other).id
    apart one other some less few used1 used2 true e true f same = absurd (grind (arith, nat_tests))
    apart one other some less few used1 used2 true e false f same =
        let is1 : one ≡ i = grind (arith, nat_tests) in
        let ne2 : other ≢ i = grind (arith, nat_tests) in
        differs other (omega arith) few ne2 used2
        (ap (λ (x : CategoryValue). x.id) (sym (at other ne2)) ∙ sym same ∙ ap (λ (x : CategoryValue). x.id) (ap (entry_at (set entries i new)) is1 ∙ here))
    apart one other some less few used1 used2 false e true f same =
        let ne1 : one ≢ i = grind (arith, nat_tests) in
        let is2 : other ≡ i = grind (arith, nat_tests) in
        differs one some (omega arith) ne1 used1
        (ap (λ (x : CategoryValue). x.id) (sym (at one ne1)) ∙ same ∙ ap (λ (x : CategoryValue). x.id) (ap (entry_at (set entries i new)) is2 ∙ here))
    apart one other some less few used1 used2 false e false f same =
        let ne1 : one ≢ i = grind (arith, nat_tests) in
        let ne2 : other ≢ i = grind (arith, nat_tests) in
        table.apart one other some less few (still one ne1 used1) (still other ne2 used2)
        (ap (λ (x : CategoryValue). x.id) (sym (at one ne1)) ∙ same ∙ ap (λ (x : CategoryValue). x.id) (at other ne2))

-- ---- one number more

-- nothing is done for a number that isn't new
old_placed : (handheld desktop : TableValue) (k : ℕ) (m : MergingValue) → is_new handheld desktop (suc k) ≡ false → ArePlaced handheld desktop k m
    → ArePlaced handheld desktop (suc k) m
old_placed handheld desktop k m old placed = record {
  table = placed.table;
  clean = placed.clean;
  whole = placed.whole;
  first = placed.first;
  settled = λ j some few used turn. settled j some few used turn (j == suc k) refl;
  new = λ j later few e. placed.new j (omega arith) few e;
  other = placed.other;
  known = placed.known;
}
  where
    settled : (j : ℕ) → 1 ≤ j → j < 16 → is_used desktop.entries j ≡ true → (is_new handheld desktop j ≡ false) ⊎ (j ≤ suc k) → (b : Bool) → (j == suc k) ≡ b
        → IsSettled m.entries desktop j (get_or m.places j 0)
    settled j some few used turn true e =
        let same : suc k ≡ j = grind (arith, nat_tests) in
        placed.settled j some few used (inl (subst (λ i. is_new handheld desktop i ≡ false) same old))
    settled j some few used (inl was) false e = placed.settled j some few used (inl was)
    settled j some few used (inr most) false e =
        let ne : j ≢ suc k = grind (arith, nat_tests) in
        placed.settled j some few used (inr (omega arith))

-- the entries stay, and the number goes to this place
put_placed : (handheld desktop : TableValue) (k place : ℕ) (m new : MergingValue) → new.entries ≡ m.entries → length new.places ≡ 16
    → get_or new.places (suc k) 0 ≡ place → ((j : ℕ) → j ≢ suc k → get_or new.places j 0 ≡ get_or m.places j 0)
    → is_new handheld desktop (suc k) ≡ true → IsSettled m.entries desktop (suc k) place → ArePlaced handheld desktop k m
    → ArePlaced handheld desktop (suc k) new
put_placed handheld desktop k place m new same whole here others is now placed = record {
  table = rw same placed.table;
  clean = rw same placed.clean;
  whole = whole;
  first = others 0 (omega arith) ∙ placed.first;
  settled = λ j some few used turn. settled j some few used turn (j == suc k) refl;
  new = λ j later few e.
      let ne : j ≢ suc k = omega arith in
      let before = placed.new j (omega arith) few e in
      (rw same before.0, others j ne ∙ before.1);
  other = λ j some few none. others j (used_not j none) ∙ placed.other j some few none;
  known = λ j p some few used at. others j (known_not j p at) ∙ placed.known j p some few used at;
}
  where
    known_not : (j p : ℕ) → of_id handheld.entries (id_at desktop j) ≡ Some p → j ≢ suc k
    known_not j p at e =
        let lost = sym (new_used handheld desktop (suc k) is).1 ∙ subst (λ i. of_id handheld.entries (id_at desktop i) ≡ Some p) e at in cc

    used_not : (j : ℕ) → is_used desktop.entries j ≡ false → j ≢ suc k
    used_not j none e =
        let no = sym (subst (λ i. is_used desktop.entries i ≡ false) e none) ∙ (new_used handheld desktop (suc k) is).0 in cc

    settled : (j : ℕ) → 1 ≤ j → j < 16 → is_used desktop.entries j ≡ true → (is_new handheld desktop j ≡ false) ⊎ (j ≤ suc k) → (b : Bool) → (j == suc k) ≡ b
        → IsSettled new.entries desktop j (get_or new.places j 0)
    settled j some few used turn true e =
        let turn_is : j ≡ suc k = grind (arith, nat_tests) in
        rw (same, turn_is, here) now
    settled j some few used (inl was) false e =
        let ne : j ≢ suc k = grind (arith, nat_tests) in
        rw (same, others j ne) (placed.settled j some few used (inl was))
    settled j some few used (inr most) false e =
        let ne : j ≢ suc k = grind (arith, nat_tests) in
        rw (same, others j ne) (placed.settled j some few used (inr (omega arith)))

-- the number fills an unused entry
fill_placed : (handheld desktop : TableValue) (k i : ℕ) (m : MergingValue) → IsTable desktop → is_new handheld desktop (suc k) ≡ true
    → Fills desktop (suc k) i m.entries → ArePlaced handheld desktop k m → ArePlaced handheld desktop (suc k) (filled (entry_at desktop.entries (suc k)) (suc k) (Some i) m)
fill_placed handheld desktop k i m is new fills placed = record {
  table = filled_table desktop (suc k) i m.entries is fills placed.table;
  clean = λ n some few none. clean n some few none (n == i) refl;
  whole = simp length-set placed.whole;
  first = get_or-set_other m.places (suc k) 0 i 0 (omega arith) ∙ placed.first;
  settled = λ j some few used turn. settled j some few used turn (j == suc k) refl;
  new = λ j later few e.
      let ne : j ≢ suc k = omega arith in
      let before = placed.new j (omega arith) few e in (
        id_still desktop (suc k) i j m.entries is fills (omega arith) few (new_used handheld desktop j e).0 ne ∙ before.0,
        get_or-set_other m.places (suc k) j i 0 ne ∙ before.1,
      );
  other = λ j some few none. get_or-set_other m.places (suc k) j i 0 (used_not j none) ∙ placed.other j some few none;
  known = λ j p some few used at. get_or-set_other m.places (suc k) j i 0 (known_not j p at) ∙ placed.known j p some few used at;
}
  where
    known_not : (j p : ℕ) → of_id handheld.entries (id_at desktop j) ≡ Some p → j ≢ suc k
    known_not j p at e =
        let lost = sym (new_used handheld desktop (suc k) new).1 ∙ subst (λ i. of_id handheld.entries (id_at desktop i) ≡ Some p) e at in cc

    free : IsFree m.entries i
    free = free_at m.entries i fills.free

    used_not : (j : ℕ) → is_used desktop.entries j ≡ false → j ≢ suc k
    used_not j none e = let no = sym (subst (λ i. is_used desktop.entries i ≡ false) e none) ∙ fills.used in cc

    clean : (n : ℕ) → 1 ≤ n → n < 16 → has_label (entry_at (set m.entries i (entry_at desktop.entries (suc k))) n) ≡ false → (b : Bool) → (n == i) ≡ b
        → entry_at (set m.entries i (entry_at desktop.entries (suc k))) n ≡ no_entry
    clean n some few none true e =
        let same : n ≡ i = grind (arith, nat_tests) in
        let here = ap has_label (ap (entry_at (set m.entries i (entry_at desktop.entries (suc k)))) same
        ∙ get_or-set_same m.entries i (entry_at desktop.entries (suc k)) no_entry free.less) in
        let no = sym none ∙ here ∙ labelled_at desktop (suc k) fills.some fills.used in absurd cc
    clean n some few none false e =
        let ne : n ≢ i = grind (arith, nat_tests) in
        let at = get_or-set_other m.entries i n (entry_at desktop.entries (suc k)) no_entry ne in
        at ∙ placed.clean n some few (ap has_label (sym at) ∙ none)

    settled : (j : ℕ) → 1 ≤ j → j < 16 → is_used desktop.entries j ≡ true → (is_new handheld desktop j ≡ false) ⊎ (j ≤ suc k) → (b : Bool) → (j == suc k) ≡ b
        → IsSettled (set m.entries i (entry_at desktop.entries (suc k))) desktop j (get_or (set m.places (suc k) i) j 0)
    settled j some few used turn true e =
        let turn_is : j ≡ suc k = grind (arith, nat_tests) in
        rw (turn_is, get_or-set_same m.places (suc k) i 0 (omega (arith, placed.whole))) (settled_now desktop (suc k) i m.entries fills)
    settled j some few used (inl was) false e =
        let ne : j ≢ suc k = grind (arith, nat_tests) in
        rw (get_or-set_other m.places (suc k) j i 0 ne)
        (settled_still desktop (suc k) i j _ m.entries is fills some few used ne (placed.settled j some few used (inl was)))
    settled j some few used (inr most) false e =
        let ne : j ≢ suc k = grind (arith, nat_tests) in
        rw (get_or-set_other m.places (suc k) j i 0 ne)
        (settled_still desktop (suc k) i j _ m.entries is fills some few used ne (placed.settled j some few used (inr (omega arith))))

step_placed : (handheld desktop : TableValue) (k : ℕ) (m : MergingValue) → IsTable desktop → suc k < 16 → ArePlaced handheld desktop k m
    → ArePlaced handheld desktop (suc k) (by_label handheld desktop (suc k) m)
unfolding by_label
step_placed handheld desktop k m is few placed = by_turn (is_new handheld desktop (suc k)) refl
  where
    by_free : (o : Option ℕ) → unused m.entries ≡ o → is_new handheld desktop (suc k) ≡ true → of_label m.entries (label_at desktop (suc k)) ≡ None
        → ArePlaced handheld desktop (suc k) (filled (entry_at desktop.entries (suc k)) (suc k) o m)
    by_free None full e none =
        let before = placed.new (suc k) (omega arith) few e in
        put_placed handheld desktop k 0 m m refl placed.whole before.1 (λ j ne. refl) e
        (inr (inr (record { id = before.0; label = none; full = full; place = refl }))) placed
    by_free (Some i) free e none =
        let before = placed.new (suc k) (omega arith) few e in
        fill_placed handheld desktop k i m is e
        (record { some = omega arith; few = few; used = (new_used handheld desktop (suc k) e).0; id = before.0; label = none; free = free }) placed

    by_place : (o : Option ℕ) → of_label m.entries (label_at desktop (suc k)) ≡ o → is_new handheld desktop (suc k) ≡ true
        → ArePlaced handheld desktop (suc k) (labelled (entry_at desktop.entries (suc k)) (suc k) o m)
    by_place None none e = by_free (unused m.entries) refl e none
    by_place (Some p) at e =
        let before = placed.new (suc k) (omega arith) few e in
        put_placed handheld desktop k p m _ refl (simp length-set placed.whole) (get_or-set_same m.places (suc k) p 0 (omega (arith, placed.whole)))
        (λ j ne. get_or-set_other m.places (suc k) j p 0 ne) e (inr (inl (record { id = before.0; label = at }))) placed

    by_turn : (b : Bool) → is_new handheld desktop (suc k) ≡ b → ArePlaced handheld desktop (suc k) (by_label handheld desktop (suc k) m)
    by_turn true e = rw e (by_place (of_label m.entries (label_at desktop (suc k))) refl e)
    by_turn false e = rw e (old_placed handheld desktop k m e placed)

-- ---- all numbers

all_placed : (handheld desktop : TableValue) (k : ℕ) (m : MergingValue) → IsTable handheld → IsTable desktop → k < 16 → AreJoined handheld desktop 15 m
    → ArePlaced handheld desktop k (rounds (by_label handheld desktop) k m)
unfolding rounds
all_placed handheld desktop zero m one other few joined = begun_placed handheld desktop m one joined
all_placed handheld desktop (suc k) m one other few joined =
    step_placed handheld desktop k _ other few (all_placed handheld desktop k m one other (omega arith) joined)

pub merged_placed : (handheld desktop : TableValue) → IsTable handheld → IsTable desktop → ArePlaced handheld desktop 15 (merging handheld desktop)
unfolding merging
merged_placed handheld desktop one other =
    all_placed handheld desktop 15 _ one other (omega arith) (all_joined handheld desktop 15 other (omega arith) one.whole)
