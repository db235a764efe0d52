-- Carrying out a plan's writes makes the merged records.
use Rattle.std.proofs.Common.{◌≡◌, ℕ, zero, suc, ◌<◌, ◌&&◌, List, [], ◌∷◌, ◌++◌, refl, ap, ◌∙◌, sym, subst, arith, true, false, Bool, Option, Some, None, map}
use Rattle.std.proofs.Common.{filter, not, ◌==◌, if◌then◌else◌, append-nil, is_none, nat_lt}
use Rattle.std.specs.Prelude.{flat_map}
use Rattle.std.proofs.lemmas.Grind.{common_steps}
use Rattle.std.proofs.lemmas.Bool.Decides.{nat_tests}
use Rattle.pdb_values.specs.Contents.{ContentValue}
use Rattle.pdb_values.specs.Records.{is_live}
use Rattle.pdb_values.specs.declared.record.Record.{Record}
use Rattle.palm_device.specs.Records.{place_of_id, new_record, put_record, without_record, clean}
use Rattle.palm_device.proofs.RecordLaws.{put_record_new}
use Rattle.conduit_rules.specs.ById.{id_bound, each_below, each_id, with_id, at}
use Rattle.conduit_rules.specs.States.{SideState, nothing, first}
use Rattle.conduit_rules.specs.Choices.{Choice}
use Rattle.conduit_rules.specs.Plans.{replacement, is_purged, replaced_rows, purged_ids}
use Rattle.conduit_rules.proofs.ByIdLaws.{each_below-zero, each_below-suc, each_below-same}
use Rattle.conduit_rules.proofs.PlanLaws.{IsRisingFrom, replaced_rise, at-each_below, has, has-each_below}
use Rattle.conduit_rules.proofs.PlanLaws.{ids_of as pair_ids}
use Rattle.conduit_rules.proofs.AgreedLaws.{RowsDiffer}
use Rattle.record_merge.specs.Writes.{Write, clean_up, reset, carried_out, after, numbered, replaces, adding, purges, giving, clearing, AreFree}
use Rattle.record_merge.specs.Merging.{settled_record, written_over, kept_record, new_under, merged_records, is_held_live, AreShown, ShowsNoOther}
use Rattle.record_merge.proofs.PutLaws.{Apart, replaced, appended, put_all, put_all-is, differ-put, first-put, without_record-nil, without_record-cons}

pub after-append : (ws vs : List Write) (records : List Record) → after (ws ++ vs) records ≡ after vs (after ws records)
after-append [] vs records = refl
after-append (w ∷ ws) vs records = after-append ws vs (carried_out w records)

pub after-replaces : (es : List (ℕ × ContentValue)) (records : List Record) → after (replaces es) records ≡ put_all es records
after-replaces [] records = refl
after-replaces (e ∷ es) records = after-replaces es (put_record e.0 e.1 records)

pub after-adding_all : (es : List (ℕ × ContentValue)) (records : List Record) → after (adding es) records ≡ put_all es records
after-adding_all [] records = refl
after-adding_all (e ∷ es) records = after-adding_all es (put_record e.0 e.1 records)

abbrev pub new_of : ℕ × ContentValue → Record
new_of e = new_record e.0 e.1

-- adds stand at the end in their order
after-adding : (es : List (ℕ × ContentValue)) (records : List Record) → AreFree es records → after (adding es) records ≡ records ++ map new_of es
after-adding [] records free = sym (append-nil records)
after-adding (e ∷ es) records free =
    grind (arith, common_steps, after-adding es (put_record e.0 e.1 records) free.1, put_record_new e.0 e.1 records free.0.none)

pub differ-put_all : (es : List (ℕ × ContentValue)) (records : List Record) → RowsDiffer records → RowsDiffer (put_all es records)
differ-put_all [] records differ = differ
differ-put_all (e ∷ es) records differ = differ-put_all es (put_record e.0 e.1 records) (differ-put e.0 e.1 records differ)

-- ---- the purges

none_here : (i : ℕ) (records : List Record) → first i records ≡ None → records ≡ filter (λ r. not (r.id == i)) records
none_here i [] none = refl
none_here i (r ∷ records) none = grind (arith, nat_tests, none, none_here i records)

without-is : (i : ℕ) (records : List Record) → RowsDiffer records → without_record i records ≡ filter (λ r. not (r.id == i)) records
without-is i [] differ = without_record-nil i
without-is i (r ∷ records) differ = grind (arith, without_record-cons i r records, without-is i records differ.1, none_here i records)

pub first-filter_none : (keep : Record → Bool) (i : ℕ) (records : List Record) → first i records ≡ None → first i (filter keep records) ≡ None
first-filter_none keep i [] none = refl
first-filter_none keep i (r ∷ records) none = grind (arith, none, first-filter_none keep i records)

differ_by : (b : Bool) (r : Record) (records kept : List Record) → first r.id kept ≡ None → RowsDiffer kept → RowsDiffer (if b then r ∷ kept else kept)
differ_by b r records kept none differ = grind arith

pub differ-filter : (keep : Record → Bool) (records : List Record) → RowsDiffer records → RowsDiffer (filter keep records)
differ-filter keep [] differ = tt
differ-filter keep (r ∷ records) differ =
    differ_by (keep r) r records (filter keep records) (first-filter_none keep r.id records differ.0) (differ-filter keep records differ.1)

filter-both : (i : ℕ) (is : List ℕ) (records : List Record)
    → filter (λ r. not (has r.id is)) (filter (λ r. not (r.id == i)) records) ≡ filter (λ r. not (has r.id (i ∷ is))) records
filter-both i is [] = refl
filter-both i is (r ∷ records) = grind (arith, nat_tests, filter-both i is records)

all_stay : (records : List Record) → records ≡ filter (λ r. not (has r.id [])) records
all_stay [] = refl
all_stay (r ∷ records) = ap (λ rs. r ∷ rs) (all_stay records)

after-purges : (is : List ℕ) (records : List Record) → RowsDiffer records → after (purges is) records ≡ filter (λ r. not (has r.id is)) records
after-purges [] records differ = all_stay records
after-purges (i ∷ is) records differ =
    ap (after (purges is)) (without-is i records differ)
    ∙ after-purges is (filter (λ r. not (r.id == i)) records) (differ-filter (λ r. not (r.id == i)) records differ)
    ∙ filter-both i is records

-- what is left of records by the purges, the clean up and the reset
abbrev pub finished : List ℕ → List Record → List Record
finished is records = map clean (filter is_live (filter (λ r. not (has r.id is)) records))

pub after-clearing : (ch : Choice) (h : ℕ → SideState) (records : List Record) → RowsDiffer records
    → after (clearing ch h) records ≡ finished (purged_ids ch.keep h) records
after-clearing ch h records differ =
    grind (arith, after-append (purges (purged_ids ch.keep h)) (clean_up ∷ reset ∷ []) records, after-purges (purged_ids ch.keep h) records differ)

finished-append : (is : List ℕ) (xs ys : List Record) → finished is (xs ++ ys) ≡ finished is xs ++ finished is ys
finished-append is [] ys = refl
finished-append is (x ∷ xs) ys = grind (arith, common_steps, finished-append is xs ys)

-- ---- the records that stay

finished_one : (k : Option ContentValue) (h : SideState) (r : Record) → is_held_live h ≡ is_live r
    → (if not (is_purged k h) && is_live (written_over (replacement k h) r) then clean (written_over (replacement k h) r) ∷ [] else []) ≡ kept_record k h r
finished_one k h r shown = grind arith

id_stays : (o : Option ContentValue) (r : Record) → (written_over o r).id ≡ r.id
id_stays o r = grind arith

finished-cons : (is : List ℕ) (x : Record) (xs : List Record)
    → finished is (x ∷ xs) ≡ (if not (has x.id is) && is_live x then clean x ∷ [] else []) ++ finished is xs
finished-cons is x xs = grind (arith, common_steps)

pub at-replaced : (keep : ℕ → Option ContentValue) (h : ℕ → SideState) (i : ℕ) → nat_lt i id_bound ≡ true
    → at i (replaced_rows keep h) ≡ replacement (keep i) (h i)
at-replaced keep h i within = at-each_below (λ j. replacement (keep j) (h j)) id_bound i ∙ ap (λ b. if b then replacement (keep i) (h i) else None) within

pub has-purged : (keep : ℕ → Option ContentValue) (h : ℕ → SideState) (i : ℕ) → nat_lt i id_bound ≡ true
    → has i (purged_ids keep h) ≡ is_purged (keep i) (h i)
has-purged keep h i within = has-each_below (λ j. is_purged (keep j) (h j)) id_bound i ∙ ap (λ b. b && is_purged (keep i) (h i)) within

finished-kept : (keep : ℕ → Option ContentValue) (h : ℕ → SideState) (records : List Record) → AreShown h records
    → finished (purged_ids keep h) (map (replaced (replaced_rows keep h)) records) ≡ flat_map (λ r. kept_record (keep r.id) (h r.id) r) records
finished-kept keep h [] shown = refl
finished-kept keep h (r ∷ records) shown =
    finished-cons (purged_ids keep h) (replaced (replaced_rows keep h) r) (map (replaced (replaced_rows keep h)) records)
    ∙ ap {A = List Record × List Record} (λ p. p.0 ++ p.1) (λ k. (here k, finished-kept keep h records shown.2 k))
  where
    here : (if not (has (replaced (replaced_rows keep h) r).id (purged_ids keep h)) && is_live (replaced (replaced_rows keep h) r) then clean
        (replaced (replaced_rows keep h) r) ∷ [] else []) ≡ kept_record (keep r.id) (h r.id) r
    here =
        ap (λ o. if not (has (written_over o r).id (purged_ids keep h)) && is_live (written_over o r) then clean (written_over o r) ∷ [] else [])
        (at-replaced keep h r.id shown.0)
        ∙ ap (λ i. if not (has i (purged_ids keep h)) && is_live (written_over (replacement (keep r.id) (h r.id)) r) then clean
        (written_over (replacement (keep r.id) (h r.id)) r) ∷ [] else []) (id_stays (replacement (keep r.id) (h r.id)) r)
        ∙ ap (λ b. if not b && is_live (written_over (replacement (keep r.id) (h r.id)) r) then clean
        (written_over (replacement (keep r.id) (h r.id)) r) ∷ [] else []) (has-purged keep h r.id shown.0)
        ∙ finished_one (keep r.id) (h r.id) r shown.1

-- ---- the records that are new

abbrev pub Unpurged : List ℕ → List (ℕ × ContentValue) → Type 0
Unpurged is [] = Unit {0}
Unpurged is (e ∷ es) = (has e.0 is ≡ false) × Unpurged is es

finished-new : (is : List ℕ) (es : List (ℕ × ContentValue)) → Unpurged is es → finished is (map new_of es) ≡ map settled_record es
finished-new is [] un = refl
finished-new is (e ∷ es) un = grind (arith, finished-new is es un.1)

abbrev pub unheld : List Record → ℕ × ContentValue → Bool
unheld records e = is_none (first e.0 records)

appended-is : (records : List Record) (es : List (ℕ × ContentValue)) → appended records es ≡ map new_of (filter (unheld records) es)
appended-is records [] = refl
appended-is records (e ∷ es) = grind (arith, appended-is records es)

filter-append : {A : Type 0} (p : A → Bool) (xs ys : List A) → filter p (xs ++ ys) ≡ filter p xs ++ filter p ys
filter-append p [] ys = refl
filter-append p (x ∷ xs) ys = grind (arith, common_steps, filter-append p xs ys)

pub filter-each_below : {A : Type 0} (p : A → Bool) (f : ℕ → List A) (n : ℕ) → filter p (each_below f n) ≡ each_below (λ i. filter p (f i)) n
filter-each_below p f zero = ap (filter p) (each_below-zero f) ∙ sym (each_below-zero (λ i. filter p (f i)))
filter-each_below p f (suc n) = ap (filter p) (each_below-suc f n) ∙ filter-append p (each_below f n) (f n)
    ∙ ap (λ ys. ys ++ filter p (f n)) (filter-each_below p f n) ∙ sym (each_below-suc (λ i. filter p (f i)) n)

new_one : (i : ℕ) (o : Option Record) (k : Option ContentValue) (h : SideState) (records : List Record) → first i records ≡ o → (o ≡ None → h ≡ nothing)
    → filter (unheld records) (with_id i (replacement k h)) ≡ new_under i o k
new_one i o k h records is shown = grind arith

new-are : (keep : ℕ → Option ContentValue) (h : ℕ → SideState) (records : List Record) → ShowsNoOther h records
    → filter (unheld records) (replaced_rows keep h) ≡ each_id (λ i. new_under i (first i records) (keep i))
new-are keep h records shown =
    filter-each_below (unheld records) (λ i. with_id i (replacement (keep i) (h i))) id_bound
    ∙ each_below-same (λ i. filter (unheld records) (with_id i (replacement (keep i) (h i)))) (λ i. new_under i (first i records) (keep i)) id_bound
    (λ i l. new_one i (first i records) (keep i) (h i) records refl (shown i))

unpurged-append : (is : List ℕ) (xs ys : List (ℕ × ContentValue)) → Unpurged is xs → Unpurged is ys → Unpurged is (xs ++ ys)
unpurged-append is [] ys un more = more
unpurged-append is (x ∷ xs) ys un more = (un.0, unpurged-append is xs ys un.1 more)

unpurged-each_below : (is : List ℕ) (f : ℕ → List (ℕ × ContentValue)) (n : ℕ) → ((i : ℕ) → Unpurged is (f i)) → Unpurged is (each_below f n)
unpurged-each_below is f zero un = subst (Unpurged is) (sym (each_below-zero f)) tt
unpurged-each_below is f (suc n) un =
    subst (Unpurged is) (sym (each_below-suc f n)) (unpurged-append is (each_below f n) (f n) (unpurged-each_below is f n un) (un n))

kept_unpurged : (b : Bool) {k : Option ContentValue} (h : SideState) {c : ContentValue} → k ≡ Some c → (b && is_purged k h) ≡ false
kept_unpurged b h is = grind arith

unpurged_one : (keep : ℕ → Option ContentValue) (h : ℕ → SideState) (i : ℕ) (o : Option Record) (k : Option ContentValue) → keep i ≡ k
    → Unpurged (purged_ids keep h) (new_under i o k)
unpurged_one keep h i None None is = tt
unpurged_one keep h i None (Some c) is = (has-each_below (λ j. is_purged (keep j) (h j)) id_bound i ∙ kept_unpurged (nat_lt i id_bound) (h i) is, tt)
unpurged_one keep h i (Some r) k is = tt

unpurged-new : (keep : ℕ → Option ContentValue) (h : ℕ → SideState) (records : List Record)
    → Unpurged (purged_ids keep h) (each_id (λ i. new_under i (first i records) (keep i)))
unpurged-new keep h records = unpurged-each_below (purged_ids keep h) (λ i. new_under i (first i records) (keep i)) id_bound
    (λ i. unpurged_one keep h i (first i records) (keep i) refl)

-- ---- the adds

pub place-first : (i : ℕ) (records : List Record) → place_of_id i records ≡ None → first i records ≡ None
place-first i [] e = refl
place-first i (r ∷ records) e = grind (arith, e, place-first i records)

pub free_before : (i : ℕ) (c : ContentValue) (records : List Record) (g : ℕ) → first g (put_record i c records) ≡ None → first g records ≡ None
free_before i c records g none = grind (arith, nat_tests, first-put i c records g, none)

pub free_before_all : (es : List (ℕ × ContentValue)) (records : List Record) (g : ℕ) → first g (put_all es records) ≡ None → first g records ≡ None
free_before_all [] records g none = none
free_before_all (e ∷ es) records g none = free_before e.0 e.1 records g (free_before_all es (put_record e.0 e.1 records) g none)

nothing_unpurged : (b : Bool) (k : Option ContentValue) {h : SideState} → h ≡ nothing → (b && is_purged k h) ≡ false
nothing_unpurged b k is = grind arith

unpurged-adds : (keep : ℕ → Option ContentValue) (h : ℕ → SideState) (records now : List Record) → ShowsNoOther h records
    → ((g : ℕ) → first g now ≡ None → first g records ≡ None) → (adds : List (ℕ × ContentValue)) → AreFree adds now → Unpurged (purged_ids keep h) adds
unpurged-adds keep h records now shown back [] free = tt
unpurged-adds keep h records now shown back (e ∷ es) free = (
  has-each_below (λ j. is_purged (keep j) (h j)) id_bound e.0
      ∙ nothing_unpurged (nat_lt e.0 id_bound) (keep e.0) (shown e.0 (back e.0 (place-first e.0 now free.0.none))),
  unpurged-adds keep h records (put_record e.0 e.1 now) shown (λ g none. back g (free_before e.0 e.1 now g none)) es free.1,
)

-- ---- rising ids differ

at_below : (low end j : ℕ) (es : List (ℕ × ContentValue)) → IsRisingFrom low (pair_ids es) end → j < low → at j es ≡ None
at_below low end j [] rising below = refl
at_below low end j (e ∷ es) rising below = grind (arith, nat_tests, rising.0, at_below (suc e.0) end j es rising.1)

pub apart-rising : (low end : ℕ) (es : List (ℕ × ContentValue)) → IsRisingFrom low (pair_ids es) end → Apart es
apart-rising low end [] rising = tt
apart-rising low end (e ∷ es) rising = (at_below (suc e.0) end e.0 es rising.1 (omega arith), apart-rising (suc e.0) end es rising.1)

-- ---- the whole

-- a plan carried out makes the merged records
pub after-all : (ch : Choice) (h : ℕ → SideState) (given : List ℕ) (records : List Record) → RowsDiffer records → AreShown h records → ShowsNoOther h records
    → AreFree (numbered given ch.adds) (after (replaces (replaced_rows ch.keep h)) records)
    → after (giving ch h given ++ clearing ch h) records ≡ merged_records ch h given records
after-all ch h given records differ shown no_other free =
    let es = replaced_rows ch.keep h in
    let adds = numbered given ch.adds in
    let is = purged_ids ch.keep h in
    let free_then : AreFree adds (put_all es records) = subst (AreFree adds) (after-replaces es records) free in
    let given_all : after (giving ch h given) records ≡ put_all adds (put_all es records) = after-append (replaces es) (adding adds) records
    ∙ ap (after (adding adds)) (after-replaces es records) ∙ after-adding_all adds (put_all es records) in
    let list_5 : put_all adds (put_all es records) ≡ (map (replaced es) records ++ appended records es) ++ map new_of adds =
    sym (after-adding_all adds (put_all es records)) ∙ after-adding adds (put_all es records) free_then
    ∙ ap (λ rs. rs ++ map new_of adds) (put_all-is es records (apart-rising 0 id_bound es (replaced_rise ch.keep h)) differ) in
    after-append (giving ch h given) (clearing ch h) records
    ∙ ap (after (clearing ch h)) given_all
    ∙ after-clearing ch h (put_all adds (put_all es records)) (differ-put_all adds (put_all es records) (differ-put_all es records differ))
    ∙ ap (finished is) list_5
    ∙ finished-append is (map (replaced es) records ++ appended records es) (map new_of adds)
    ∙ ap (λ rs. rs ++ finished is (map new_of adds)) (finished-append is (map (replaced es) records) (appended records es))
    ∙ ap {A = List Record × (List Record × List Record)} (λ p. (p.0 ++ p.1.0) ++ p.1.1)
    (λ k. (
      finished-kept ch.keep h records shown k,
      (
        mid k,
        finished-new is adds (unpurged-adds ch.keep h records (put_all es records) no_other (λ g none. free_before_all es records g none) adds
            free_then) k,
      ),
    ))
    ∙ glue (flat_map (λ r. kept_record (ch.keep r.id) (h r.id) r) records)
    (map settled_record (each_id (λ i. new_under i (first i records) (ch.keep i)))) (map settled_record adds)
  where
    mid : finished (purged_ids ch.keep h) (appended records (replaced_rows ch.keep h)) ≡ map settled_record
        (each_id (λ i. new_under i (first i records) (ch.keep i)))
    mid =
        ap (finished (purged_ids ch.keep h)) (appended-is records (replaced_rows ch.keep h) ∙ ap (map new_of) (new-are ch.keep h records no_other))
        ∙ finished-new (purged_ids ch.keep h) (each_id (λ i. new_under i (first i records) (ch.keep i))) (unpurged-new ch.keep h records)

    glue : (xs ys zs : List Record) → (xs ++ ys) ++ zs ≡ xs ++ (ys ++ zs)
    glue xs ys zs = grind (arith, common_steps)
