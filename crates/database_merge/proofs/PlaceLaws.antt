-- Ids that are kept beside records.
use Rattle.std.proofs.Common.{◌≡◌, ◌∙◌, ◌<◌, ℕ, suc, Bool, true, false, cond, List, [], ◌∷◌, ◌++◌, length, position, refl, ap, sym, subst, arith, Option, Some, None, nat_eq}
use Rattle.std.specs.Prelude.{IfSome, is_some, option_map}
use Rattle.std.proofs.lemmas.List.{map-append}
use Rattle.pdb_values.specs.Contents.{ContentValue}
use Rattle.pdb_values.specs.Databases.{DatabaseValue}
use Rattle.pdb_values.specs.declared.record.Record.{Record}
use Rattle.pdb_values.proofs.PlaceLaws.{position-cons, position_found}
use Rattle.palm_device.specs.Entries.{change_at}
use Rattle.palm_device.specs.Records.{has_id, place_of_id, put_record, rewritten, with_records}
use Rattle.palm_device.specs.Soundness.{ids_of}
use Rattle.palm_device.proofs.RecordLaws.{put_record_placed}
use Rattle.record_merge.proofs.PutLaws.{put_record-cons}
use Rattle.handheld_store.proofs.IndexLaws as index
use Rattle.database_merge.specs.Places.{HasPlaces}
use Rattle.database_merge.specs.declared.places.Places.{Places}

-- the place of an id among ids that are kept is the record's
pub place_kept : (id : ℕ) (items : List Record) (ids : List ℕ) → ids ≡ ids_of items → position (nat_eq id) ids ≡ place_of_id id items
place_kept id items ids is = ap (position (nat_eq id)) is ∙ index.place_among_ids id items

pub place_within : (id : ℕ) (items : List Record) (place : Option ℕ) → place ≡ place_of_id id items
    → IfSome place (λ (k : ℕ). k < length items)
place_within id items None is = tt
place_within id items (Some place) is = (position_found (λ (item : Record). nat_eq item.id id) items place (sym is)).1

pub ids_more : (items : List Record) (item : Record) → ids_of (items ++ item ∷ []) ≡ ids_of items ++ item.id ∷ []
ids_more items item = map-append (λ (item : Record). item.id) items (item ∷ [])

pub one_more_place : (items : List Record) (item : Record) (id : ℕ) (old new : List ℕ) → item.id ≡ id → old ≡ ids_of items → new ≡ old ++ id ∷ []
    → new ≡ ids_of (items ++ item ∷ [])
one_more_place items item id old new same was is =
    is ∙ ap (λ n. old ++ n ∷ []) (sym same) ∙ ap (λ ids. ids ++ item.id ∷ []) was ∙ sym (ids_more items item)

-- a record that gets another content keeps its id
some_later : (p : Option ℕ) → is_some (option_map (λ place. suc place) p) ≡ is_some p
some_later None = refl
some_later (Some place) = refl

put_by : (b : Bool) (id : ℕ) (content : ContentValue) (item : Record) (items : List Record)
    → (is_some (place_of_id id items) ≡ true → ids_of (put_record id content items) ≡ ids_of items)
    → is_some (cond b (Some 0) (option_map (λ place. suc place) (place_of_id id items))) ≡ true
    → ids_of (cond b (rewritten content item ∷ items) (item ∷ put_record id content items)) ≡ ids_of (item ∷ items)
put_by true id content item items later there = refl
put_by false id content item items later there = ap (λ ids. item.id ∷ ids) (later (sym (some_later (place_of_id id items)) ∙ there))

ids_there : (id : ℕ) (content : ContentValue) (items : List Record) → is_some (place_of_id id items) ≡ true
    → ids_of (put_record id content items) ≡ ids_of items
ids_there id content [] there = cc
ids_there id content (item ∷ items) there =
    ap ids_of (put_record-cons id content item items)
    ∙ put_by (has_id id item) id content item items (ids_there id content items) (ap is_some (sym (position-cons (has_id id) item items)) ∙ there)

pub ids_put : (id : ℕ) (content : ContentValue) (items : List Record) (place : ℕ) → place_of_id id items ≡ Some place
    → ids_of (put_record id content items) ≡ ids_of items
ids_put id content items place found = ids_there id content items (ap is_some found)

-- so its database keeps its places
pub places_set : (places : Places) (id : ℕ) (content : ContentValue) (old new : DatabaseValue) (place : ℕ) → place_of_id id old.records ≡ Some place
    → new ≡ with_records (change_at (rewritten content) place old.records) old → HasPlaces old.records places → HasPlaces new.records places
places_set places id content old new place there is placed =
    let put = put_record_placed id content old.records place there in
    let same : ids_of new.records ≡ ids_of old.records = ap (λ (d : DatabaseValue). ids_of d.records) is ∙ ap ids_of (sym put)
    ∙ ids_put id content old.records place there in
    subst (λ (ids : List ℕ). IfSome places.ids (λ kept. kept.keys ≡ ids)) (sym same) placed
