-- Counts of a view: it has as many entries as there are records, and rows whose ids no entry has are those whose ids no record has.
use Rattle.std.proofs.Common.{◌≡◌, ◌∙◌, ◌<◌, ◌≤◌, ◌+◌, ap, refl, sym, subst, ℕ, zero, suc, Bool, true, false, List, [], ◌∷◌, ◌++◌}
use Rattle.std.proofs.Common.{length, map, sum_by, Option, Some, None, option_to_list, arith}
use Rattle.std.proofs.lemmas.Bool.{lt-ltb}
use Rattle.std.proofs.lemmas.Bool.Decides.{nat_tests}
use Rattle.std.proofs.lemmas.Grind.{common_steps}
use Rattle.std.proofs.lemmas.List.{map-append}
use Rattle.std.proofs.lemmas.List.Elements.{filter-append}
use Rattle.std.specs.Prelude.{◌==◌, filter, if◌then◌else◌, is_none, is_some, nat_lt}
use Rattle.std.specs.List.{AllByRecursion}
use Rattle.std.specs.Option.{option_map}
use Rattle.session_plan.proofs.PlanWords.{ContentValue, kept_rows}
use Rattle.pdb_values.specs.declared.record.Record.{Record}
use Rattle.palm_device.specs.Soundness.{AreIds, ids_of}
use Rattle.conduit_rules.specs.ById.{each_below, each_id, id_bound, put, with_id}
use Rattle.conduit_rules.specs.States.{first}
use Rattle.conduit_rules.specs.Views.{first_seen}
use Rattle.conduit_rules.specs.declared.view.Seen.{Seen}
use Rattle.conduit_rules.proofs.ByIdLaws.{each_below-none, each_below-same, each_below-suc, each_below-zero, sum-each_below_put}
use Rattle.conduit_rules.proofs.PlanLaws.{IsRisingFrom, ids_of as row_ids, kept_rise, rising-where, where_true}
use Rattle.conduit_rules.proofs.ViewLaws.{any_view, first-id}
use Rattle.record_merge.specs.Merging.{new_under}
use Rattle.session_plan.specs.PlannedLimits.{begins_with, entries_from, one_unless, unseen_count}
use Rattle.record_merge.proofs.PutLaws.{first-among}

-- ---- as many entries as records

-- the view that has an entry for each record
abbrev pub view_by : (Record → Seen) → List Record → List Seen
view_by g records = each_id (λ i. option_to_list (option_map g (first i records)))

ones : {A : Type 0} (xs : List A) → sum_by (λ x. 1) xs ≡ length xs
ones [] = refl
ones (x ∷ xs) = grind (arith, common_steps, ones xs)

turned : (i j : ℕ) → (i == j) ≡ (j == i)
turned i j = grind (arith, nat_tests)

with_first : (g : Record → Seen) (b c : Bool) (r : Record) (found : Option Record) → b ≡ c
    → option_to_list (option_map g (if b then Some r else found)) ≡ option_to_list (if c then Some (g r) else option_map g found)
with_first g b true r found is = rw is
with_first g b false r found is = rw is

counted : (g : Record → Seen) (n : ℕ) (records : List Record) → AreIds (ids_of records) → AllByRecursion (λ (r : Record). r.id < n) records
    → sum_by (λ (s : Seen). 1) (each_below (λ i. option_to_list (option_map g (first i records))) n) ≡ length records
counted g n [] ids bounded = ap (sum_by (λ (s : Seen). 1)) (each_below-none (λ i. option_to_list (option_map g (first i []))) n (λ i. refl))
counted g n (r ∷ records) ids bounded =
    let f : ℕ → Option Seen = λ i. option_map g (first i records) in
    let none : f r.id ≡ None = ap (option_map g) (first-among r.id records ids.1) in
    ap (sum_by (λ (s : Seen). 1)) (each_below-same (λ i. option_to_list (option_map g (first i (r ∷ records))))
    (λ i. option_to_list (put f r.id (Some (g r)) i)) n
    (λ i less. with_first g (r.id == i) (i == r.id) r (first i records) (turned r.id i)))
    ∙ sum-each_below_put (λ (s : Seen). 1) f r.id (g r) n none bounded.0
    ∙ (let rest = counted g n records ids.2 bounded.1 in omega (arith, rest))

pub length-view : (g : Record → Seen) (records : List Record) → AreIds (ids_of records) → AllByRecursion (λ (r : Record). r.id < id_bound) records
    → length (view_by g records) ≡ length records
length-view g records ids bounded = sym (ones (view_by g records)) ∙ counted g id_bound records ids bounded

-- ---- in rising ids

abbrev seen_ids : List Seen → List ℕ
seen_ids view = map (λ (s : Seen). s.id) view

-- what goes into each part of what each number gives
each_below-by : {A B : Type 0} (h : List A → List B) (g : ℕ → List A) (n : ℕ) → h [] ≡ [] → ((xs ys : List A) → h (xs ++ ys) ≡ h xs ++ h ys)
    → h (each_below g n) ≡ each_below (λ i. h (g i)) n
each_below-by h g zero none more = ap h (each_below-zero g) ∙ none ∙ sym (each_below-zero (λ i. h (g i)))
each_below-by h g (suc n) none more =
    ap h (each_below-suc g n) ∙ more (each_below g n) (g n) ∙ ap (λ xs. xs ++ h (g n)) (each_below-by h g n none more)
    ∙ sym (each_below-suc (λ i. h (g i)) n)

pub map-each_below : {A B : Type 0} (f : A → B) (g : ℕ → List A) (n : ℕ) → map f (each_below g n) ≡ each_below (λ i. map f (g i)) n
map-each_below f g n = each_below-by (map f) g n refl (map-append f)

own_id : (g : Record → Seen) (i : ℕ) (found : Option Record) → ((r : Record) → (g r).id ≡ r.id) → ((r : Record) → found ≡ Some r → r.id ≡ i)
    → seen_ids (option_to_list (option_map g found)) ≡ (if is_some found then i ∷ [] else [])
own_id g i None keeps bears = refl
own_id g i (Some r) keeps bears = ap (λ n. n ∷ []) (keeps r ∙ bears r refl)

view_rises : (g : Record → Seen) (records : List Record) → ((r : Record) → (g r).id ≡ r.id) → IsRisingFrom 0 (seen_ids (view_by g records)) id_bound
view_rises g records keeps =
    subst (λ is. IsRisingFrom 0 is id_bound)
    (sym (map-each_below (λ (s : Seen). s.id) (λ i. option_to_list (option_map g (first i records))) id_bound
    ∙ each_below-same (λ i. seen_ids (option_to_list (option_map g (first i records)))) (where_true (λ i. is_some (first i records))) id_bound
    (λ i less. own_id g i (first i records) keeps (first-id i records))))
    (rising-where (λ i. is_some (first i records)) id_bound)

lower : (low high : ℕ) (is : List ℕ) (end : ℕ) → low ≤ high → IsRisingFrom high is end → IsRisingFrom low is end
lower low high [] end less rising = omega (arith, rising)
lower low high (i ∷ is) end less rising = ((let first = rising.0 in omega (arith, first)), rising.1)

from_rises : (id : ℕ) (view : List Seen) (end : ℕ) → IsRisingFrom 0 (seen_ids view) end → IsRisingFrom 0 (seen_ids (entries_from id view)) end
unfolding entries_from
from_rises id [] end rising = rising
from_rises id (s ∷ view) end rising = by (nat_lt s.id id) (from_rises id view end (lower 0 (suc s.id) (seen_ids view) end (omega arith) rising.1))
  where
    by : (b : Bool) → IsRisingFrom 0 (seen_ids (entries_from id view)) end → IsRisingFrom 0 (seen_ids (if b then entries_from id view else s ∷ view)) end
    by true rest = rest
    by false rest = rising

from_same : (j id : ℕ) (view : List Seen) → id ≤ j → first_seen j (entries_from id view) ≡ first_seen j view
unfolding entries_from
from_same j id [] past = refl
from_same j id (s ∷ view) past = by (nat_lt s.id id) refl (from_same j id view past)
  where
    by : (b : Bool) → nat_lt s.id id ≡ b → first_seen j (entries_from id view) ≡ first_seen j view
        → first_seen j (if b then entries_from id view else s ∷ view) ≡ (if s.id == j then Some s else first_seen j view)
    by true is rest = let other : (s.id == j) ≡ false = grind (arith, nat_tests, is, past) in rw other rest
    by false is rest = refl

none_below : (low end id : ℕ) (view : List Seen) → IsRisingFrom low (seen_ids view) end → id < low → first_seen id view ≡ None
none_below low end id [] rising below = refl
none_below low end id (s ∷ view) rising below =
    let other : (s.id == id) ≡ false = (let first = rising.0 in grind (arith, nat_tests, first, below)) in
    rw other (none_below (suc s.id) end id view rising.1 (let first = rising.0 in omega (arith, first, below)))

begins : (id : ℕ) (view : List Seen) (end : ℕ) → IsRisingFrom 0 (seen_ids view) end → begins_with id (entries_from id view) ≡ is_some (first_seen id view)
unfolding entries_from
begins id [] end rising = refl
begins id (s ∷ view) end rising = by (nat_lt s.id id) refl (begins id view end (lower 0 (suc s.id) (seen_ids view) end (omega arith) rising.1))
  where
    found : (c : Bool) → (s.id == id) ≡ c → nat_lt s.id id ≡ false → c ≡ is_some (if c then Some s else first_seen id view)
    found true here is = refl
    found false here is = let past : id < suc s.id = grind (arith, nat_tests, is, here) in sym (ap is_some (none_below (suc s.id) end id view rising.1 past))

    by : (b : Bool) → nat_lt s.id id ≡ b → begins_with id (entries_from id view) ≡ is_some (first_seen id view)
        → begins_with id (if b then entries_from id view else s ∷ view) ≡ is_some (if s.id == id then Some s else first_seen id view)
    by true is rest = let other : (s.id == id) ≡ false = grind (arith, nat_tests, is) in rw other rest
    by false is rest = found (s.id == id) refl is

-- ---- rows without an entry

abbrev is_unseen : List Seen → ℕ × ContentValue → Bool
is_unseen view row = is_none (first_seen row.0 view)

one_more : (b : Bool) (found : Option Seen) (row : ℕ × ContentValue) (rows : List (ℕ × ContentValue)) (n : ℕ) → b ≡ is_some found → n ≡ length rows
    → one_unless b + n ≡ length (if is_none found then row ∷ rows else rows)
one_more b None row rows n there rest = rw there (rw rest (grind arith))
one_more b (Some s) row rows n there rest = rw there (rw rest (grind arith))

unseen_by : (view ahead : List Seen) (rows : List (ℕ × ContentValue)) (low end last : ℕ) → IsRisingFrom 0 (seen_ids ahead) last
    → IsRisingFrom low (row_ids rows) end → ((j : ℕ) → low ≤ j → first_seen j ahead ≡ first_seen j view)
    → unseen_count ahead rows ≡ length (filter (is_unseen view) rows)
unfolding unseen_count
unseen_by view ahead [] low end last rising rows_rise same = refl
unseen_by view ahead (row ∷ rows) low end last rising rows_rise same =
    one_more (begins_with row.0 (entries_from row.0 ahead)) (first_seen row.0 view) row (filter (is_unseen view) rows)
    (unseen_count (entries_from row.0 ahead) rows)
    (begins row.0 ahead last rising ∙ ap is_some (same row.0 rows_rise.0))
    (unseen_by view (entries_from row.0 ahead) rows (suc row.0) end last (from_rises row.0 ahead last rising) rows_rise.1
    (λ j past. from_same j row.0 ahead (omega (arith, past)) ∙ same j (let first = rows_rise.0 in omega (arith, past, first))))

new_at : (g : Record → Seen) (view : List Seen) (i : ℕ) (keep : Option ContentValue) (found : Option Record) → first_seen i view ≡ option_map g found
    → filter (is_unseen view) (with_id i keep) ≡ new_under i found keep
new_at g view i None None shows = refl
new_at g view i None (Some r) shows = refl
new_at g view i (Some c) None shows = ap (λ (o : Option Seen). if is_none o then (i, c) ∷ [] else []) shows
new_at g view i (Some c) (Some r) shows = ap (λ (o : Option Seen). if is_none o then (i, c) ∷ [] else []) shows

-- what is kept under ids that no record has, counted over the view
pub unseen_is_new : (g : Record → Seen) (records : List Record) (keep : ℕ → Option ContentValue) → ((r : Record) → (g r).id ≡ r.id)
    → unseen_count (view_by g records) (kept_rows keep) ≡ length (each_id (λ i. new_under i (first i records) (keep i)))
unseen_is_new g records keep keeps =
    let view = view_by g records in
    unseen_by view view (kept_rows keep) 0 id_bound id_bound (view_rises g records keeps) (kept_rise keep) (λ j past. refl)
    ∙ ap length (each_below-by (filter (is_unseen view)) (λ i. with_id i (keep i)) id_bound refl (filter-append (is_unseen view))
    ∙ each_below-same (λ i. filter (is_unseen view) (with_id i (keep i))) (λ i. new_under i (first i records) (keep i)) id_bound
    (λ i less. new_at g view i (keep i) (first i records)
    (any_view g records i keeps ∙ ap (λ b. if b then option_map g (first i records) else None) (lt-ltb i id_bound less))))
