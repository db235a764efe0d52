-- Settled records stay settled through each edit.
use Rattle.std.proofs.Common.{◌≡◌, ℕ, ◌<◌, Bool, true, false, cond, not, ◌&&◌, ◌||◌, ◌==◌, List, [], ◌∷◌, ◌++◌, map, refl, ap, sym, ◌∙◌, arith}
use Rattle.std.specs.Prelude.{Option, None, Some, filter, is_some}
use Rattle.std.specs.List.{list_all}
use Rattle.std.proofs.lemmas.Bool.Decides.{nat_tests}
use Rattle.std.proofs.lemmas.List.{map-append}
use Rattle.std.proofs.lemmas.List.Folds.{list_all-append, list_any-append}
use Rattle.pdb_values.specs.Contents.{ContentValue}
use Rattle.pdb_values.specs.Databases.{DatabaseValue}
use Rattle.pdb_values.specs.declared.record.Record.{Record}
use Rattle.palm_device.specs.Entries.{change_at, without_entry}
use Rattle.palm_device.specs.FreshIds.{is_among}
use Rattle.palm_device.specs.Edits.{edited}
use Rattle.palm_device.specs.Kept.{is_kept}
use Rattle.palm_device.specs.Records.{IsFree, clean, has_id, move_category, new_record, place_of_id, put_record, reset_flags, rewritten}
use Rattle.palm_device.specs.Records.{without_record}
use Rattle.palm_device.specs.declared.edit.Edit.{Edit}
use Rattle.palm_device.specs.declared.kept.Kept.{Kept}
use Rattle.palm_device.specs.declared.edit.Edit.TheVariants as edit
use Rattle.palm_device.proofs.RecordLaws.{put_record_new, put_record_placed}
use Rattle.handheld_files.specs.Settled.{are_ids, are_settled}
use Rattle.handheld_store.specs.Ids.{GivesGoodId, IsTakenOrFree}
use Rattle.handheld_store.specs.Lents.{flagged, moved_to}
use Rattle.handheld_store.proofs.IdLaws.{place_among}
use Rattle.handheld_store.proofs.ListLaws.{map-set}
use Rattle.std.proofs.lemmas.Bool.{or_parts}
use Rattle.folder_files.proofs.SlotLaws.{not_true}

and_is : (a b : Bool) → (a && b) ≡ true → (a ≡ true) × (b ≡ true)
and_is true b h = (refl, h)
and_is false b h = absurd cc

both : {a b : Bool} → a ≡ true → b ≡ true → (a && b) ≡ true
both h k = rw (h, k) refl

neither : {a b : Bool} → a ≡ false → b ≡ false → (a || b) ≡ false
neither h k = rw (h, k) refl

is_not : {a : Bool} → a ≡ false → not a ≡ true
is_not h = rw h refl

list_all-map : {X Y : Type 0} (p : Y → Bool) (f : X → Y) (xs : List X) → list_all p (map f xs) ≡ list_all (λ x. p (f x)) xs
list_all-map p f [] = refl
list_all-map p f (x ∷ xs) = ap (λ b. p (f x) && b) (list_all-map p f xs)

-- ---- records that change

-- records whose ids and busy bits are the same are settled alike
pub settled_alike : (items others : List Record) → map (λ item. item.id) others ≡ map (λ item. item.id) items
    → map (λ item. item.busy) others ≡ map (λ item. item.busy) items → are_settled others ≡ are_settled items
settled_alike items others ids busy =
    let idle : list_all (λ item. not item.busy) others ≡ list_all (λ item. not item.busy) items = sym (list_all-map not (λ (item : Record). item.busy) others)
    ∙ ap (list_all not) busy ∙ list_all-map not (λ (item : Record). item.busy) items in
    cc

-- one record is changed, under its id
pub are_settled-change_at : (change : Record → Record) (items : List Record) (place : ℕ)
    → ((item : Record) → (change item).id ≡ item.id) → ((item : Record) → (change item).busy ≡ item.busy)
    → are_settled items ≡ true → are_settled (change_at change place items) ≡ true
are_settled-change_at change items place id busy settled = grind (arith, settled_alike, map-set)

clean_ids : (items : List Record) → map (λ item. item.id) (map clean items) ≡ map (λ item. item.id) items
clean_ids [] = refl
clean_ids (item ∷ items) = rw (clean_ids items)

clean_busy : (items : List Record) → map (λ item. item.busy) (map clean items) ≡ map (λ item. item.busy) items
clean_busy [] = refl
clean_busy (item ∷ items) = rw (clean_busy items)

pub are_settled_reset_flags : (items : List Record) → are_settled items ≡ true → are_settled (reset_flags items) ≡ true
are_settled_reset_flags items settled = grind (arith, settled_alike, clean_ids, clean_busy)

moved_ids : (from to : ℕ) (items : List Record) → map (λ item. item.id) (move_category from to items) ≡ map (λ item. item.id) items
moved_ids from to [] = refl
moved_ids from to (item ∷ items) = grind (arith, moved_ids from to items)

moved_busy : (from to : ℕ) (items : List Record) → map (λ item. item.busy) (move_category from to items) ≡ map (λ item. item.busy) items
moved_busy from to [] = refl
moved_busy from to (item ∷ items) = grind (arith, moved_busy from to items)

pub are_settled-move_category : (from to : ℕ) (items : List Record) → are_settled items ≡ true → are_settled (move_category from to items) ≡ true
are_settled-move_category from to items settled = grind (arith, settled_alike, moved_ids, moved_busy)

-- ---- records that are taken out

among_without : (test : Record → Bool) (id : ℕ) (items : List Record)
    → is_among id (map (λ item. item.id) items) ≡ false → is_among id (map (λ item. item.id) (without_entry test items)) ≡ false
unfolding without_entry
among_without test id [] none = none
among_without test id (item ∷ items) none =
    let parts = or_parts _ _ none in
    elim (test item) as (λ b. is_among id (map (λ item. item.id) (cond b items (item ∷ without_entry test items))) ≡ false) [
      | true ↦ parts.1
      | false ↦ neither parts.0 (among_without test id items parts.1)
    ]

among_filter : (keep : Record → Bool) (id : ℕ) (items : List Record)
    → is_among id (map (λ item. item.id) items) ≡ false → is_among id (map (λ item. item.id) (filter keep items)) ≡ false
among_filter keep id [] none = none
among_filter keep id (item ∷ items) none =
    let parts = or_parts _ _ none in
    let rest = among_filter keep id items parts.1 in
    elim (keep item) as (λ b. is_among id (map (λ item. item.id) (cond b (item ∷ filter keep items) (filter keep items))) ≡ false) [
      | true ↦ neither parts.0 rest
      | false ↦ rest
    ]

ids_without : (test : Record → Bool) (items : List Record)
    → are_ids (map (λ item. item.id) items) ≡ true → are_ids (map (λ item. item.id) (without_entry test items)) ≡ true
unfolding without_entry
ids_without test [] are = are
ids_without test (item ∷ items) are =
    let parts = and_is _ _ are in
    let more = and_is _ _ parts.1 in
    elim (test item) as (λ b. are_ids (map (λ item. item.id) (cond b items (item ∷ without_entry test items))) ≡ true) [
      | true ↦ more.1
      | false ↦ both parts.0 (both (is_not (among_without test item.id items (not_true _ more.0))) (ids_without test items more.1))
    ]

ids_filter : (keep : Record → Bool) (items : List Record)
    → are_ids (map (λ item. item.id) items) ≡ true → are_ids (map (λ item. item.id) (filter keep items)) ≡ true
ids_filter keep [] are = are
ids_filter keep (item ∷ items) are =
    let parts = and_is _ _ are in
    let more = and_is _ _ parts.1 in
    let rest = ids_filter keep items more.1 in
    elim (keep item) as (λ b. are_ids (map (λ item. item.id) (cond b (item ∷ filter keep items) (filter keep items))) ≡ true) [
      | true ↦ both parts.0 (both (is_not (among_filter keep item.id items (not_true _ more.0))) rest)
      | false ↦ rest
    ]

all_without : (p test : Record → Bool) (items : List Record) → list_all p items ≡ true → list_all p (without_entry test items) ≡ true
unfolding without_entry
all_without p test [] all = all
all_without p test (item ∷ items) all =
    let parts = and_is _ _ all in
    elim (test item) as (λ b. list_all p (cond b items (item ∷ without_entry test items)) ≡ true) [
      | true ↦ parts.1
      | false ↦ both parts.0 (all_without p test items parts.1)
    ]

all_filter : (p keep : Record → Bool) (items : List Record) → list_all p items ≡ true → list_all p (filter keep items) ≡ true
all_filter p keep [] all = all
all_filter p keep (item ∷ items) all =
    let parts = and_is _ _ all in
    let rest = all_filter p keep items parts.1 in
    elim (keep item) as (λ b. list_all p (cond b (item ∷ filter keep items) (filter keep items)) ≡ true) [ true ↦ both parts.0 rest | false ↦ rest ]

pub are_settled-without_entry : (test : Record → Bool) (items : List Record) → are_settled items ≡ true → are_settled (without_entry test items) ≡ true
are_settled-without_entry test items settled = grind (arith, and_is, both, all_without, ids_without)

pub are_settled-filter : (keep : Record → Bool) (items : List Record) → are_settled items ≡ true → are_settled (filter keep items) ≡ true
are_settled-filter keep items settled = grind (arith, and_is, both, all_filter, ids_filter)

-- ---- a new record

ids_more : (ids : List ℕ) (id : ℕ) → are_ids ids ≡ true → not (id == 0) ≡ true → is_among id ids ≡ false → are_ids (ids ++ id ∷ []) ≡ true
ids_more [] id are some none = both some refl
ids_more (first ∷ ids) id are some none =
    let parts = and_is _ _ are in
    let more = and_is _ _ parts.1 in
    let apart = or_parts _ _ none in
    let turned : (id == first) ≡ (first == id) = grind (arith, nat_tests) in
    let alone = list_any-append (λ other. other == first) ids (id ∷ []) ∙ neither (not_true _ more.0) (neither (turned ∙ apart.0) refl) in
    both parts.0 (both (is_not alone) (ids_more ids id more.1 some apart.1))

settled_more : (items : List Record) (id : ℕ) (content : ContentValue) → are_settled items ≡ true
    → not (id == 0) ≡ true → is_among id (map (λ item. item.id) items) ≡ false → are_settled (items ++ new_record id content ∷ []) ≡ true
settled_more items id content settled some none = grind (arith, and_is, both, list_all-append, map-append, ids_more)

not_zero : (id : ℕ) → 0 < id → not (id == 0) ≡ true
not_zero id some = grind (arith, nat_tests)

-- a record is put under an id that is free
pub are_settled-put_free : (id : ℕ) (content : ContentValue) (items : List Record)
    → IsFree id items → are_settled items ≡ true → are_settled (put_record id content items) ≡ true
are_settled-put_free id content items free settled =
    let put = put_record_new id content items free.none in
    let none : is_among id (map (λ item. item.id) items) ≡ false = sym (place_among id items) ∙ ap is_some free.none in
    ap are_settled put ∙ settled_more items id content settled (not_zero id free.some) none

-- ---- the selected record

pub settled_rewritten : (content : ContentValue) (items : List Record) (place : ℕ)
    → are_settled items ≡ true → are_settled (change_at (rewritten content) place items) ≡ true
settled_rewritten content items place settled = grind (arith, are_settled-change_at)

pub settled_moved : (category : ℕ) (items : List Record) (place : ℕ) → are_settled items ≡ true → are_settled (change_at (moved_to category) place items) ≡ true
settled_moved category items place settled = grind (arith, are_settled-change_at)

pub settled_flagged : (dirty : Bool) (items : List Record) (place : ℕ) → are_settled items ≡ true → are_settled (change_at (flagged dirty) place items) ≡ true
settled_flagged dirty items place settled = grind (arith, are_settled-change_at)

-- ---- an edit

put_by : (id : ℕ) (content : ContentValue) (items : List Record) (o : Option ℕ)
    → place_of_id id items ≡ o → IsTakenOrFree id items → are_settled items ≡ true → are_settled (put_record id content items) ≡ true
put_by id content items None at free settled = grind (arith, are_settled-put_free)
put_by id content items (Some place) at free settled = rw (put_record_placed id content items place at) (settled_rewritten content items place settled)

-- a record is put in its place, or under an id that is free
pub are_settled-put_record : (id : ℕ) (content : ContentValue) (items : List Record)
    → IsTakenOrFree id items → are_settled items ≡ true → are_settled (put_record id content items) ≡ true
are_settled-put_record id content items free settled = grind (arith, put_by)

-- an edit that gives no new record a used id leaves settled records settled
pub are_settled_edited : (free : ℕ) (asked : Edit) (database : DatabaseValue)
    → GivesGoodId free asked database → are_settled database.records ≡ true → are_settled (edited free asked database).records ≡ true
are_settled_edited free (edit.Record id category secret bytes) database new settled = grind (arith, are_settled-put_record)
are_settled_edited free edit.NoRecords database new settled = refl
are_settled_edited free (edit.Keep kept) database new settled = grind (arith, are_settled-filter)
are_settled_edited free (edit.WithoutRecord id) database new settled = grind (arith, are_settled-without_entry)
are_settled_edited free edit.ResetFlags database new settled = are_settled_reset_flags database.records settled
are_settled_edited free (edit.MoveCategory from to) database new settled = are_settled-move_category from to database.records settled
are_settled_edited free other database new settled = settled

pub settled_purged : (id : ℕ) (items : List Record) → are_settled items ≡ true → are_settled (without_record id items) ≡ true
settled_purged id items settled = are_settled-without_entry (has_id id) items settled

pub settled_kept : (kept : Kept) (items : List Record) → are_settled items ≡ true → are_settled (filter (is_kept kept) items) ≡ true
settled_kept kept items settled = are_settled-filter (is_kept kept) items settled

pub settled_put : (id : ℕ) (content : ContentValue) (items : List Record)
    → IsFree id items → are_settled items ≡ true → are_settled (put_record id content items) ≡ true
settled_put id content items free settled = are_settled-put_free id content items free settled
