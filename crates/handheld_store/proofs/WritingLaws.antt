-- Records that are written into the database of a name.
use Rattle.std.proofs.Common.{◌≡◌, ◌∙◌, ◌++◌, ◌∷◌, [], ℕ, false, List, Option, Some, None, ap, refl, sym}
use Rattle.std.specs.Prelude.{IfSome, IsSomeAnd, is_none, option_and_then}
use Rattle.std.proofs.lemmas.List.{map-append}
use Rattle.pdb_values.specs.Contents.{ContentValue}
use Rattle.pdb_values.specs.Databases.{DatabaseValue}
use Rattle.pdb_values.specs.NamedDatabases.{database_of, replaced}
use Rattle.pdb_values.specs.declared.record.Record.{Record}
use Rattle.pdb_values.proofs.NamedLaws.{database_of-name}
use Rattle.palm_device.specs.Records.{new_record, place_of_id, put_record}
use Rattle.palm_device.specs.Soundness.{ids_of}
use Rattle.palm_device.proofs.RecordLaws.{put_record_new}
use Rattle.handheld_store.specs.Indexes.{AreIndexes, HasOneMore}
use Rattle.handheld_store.specs.Placed.{Takes, with_record}
use Rattle.handheld_store.specs.declared.index.Index.{Index}
use Rattle.handheld_store.proofs.IndexLaws.{AreIndexes-same, others-replaced}
use Rattle.handheld_store.proofs.KeptLaws.{database_of-own}
use Rattle.handheld_store.proofs.PlacedLaws.{ids_placed}

-- ---- the indexes, once a record is written

-- a new record is one more
more_by : (id : ℕ) (content : ContentValue) (name : List ℕ) (databases databases' : List DatabaseValue) (was : DatabaseValue)
    → database_of name databases ≡ Some was → databases' ≡ replaced (with_record id content was) databases
    → place_of_id id was.records ≡ None → HasOneMore name id databases databases'
more_by id content name databases databases' was here is none =
    let new : DatabaseValue = with_record id content was in
    let named : was.head.name ≡ name = database_of-name name databases was here in
    let own : database_of new.head.name databases ≡ Some was = ap (λ n. database_of n databases) named ∙ here in
    let there : database_of name databases' ≡ Some new =
    ap (database_of name) is ∙ ap (λ n. database_of n (replaced new databases)) (sym named) ∙ database_of-own new was databases own in
    let ids : ids_of new.records ≡ ids_of was.records ++ id ∷ [] =
    ap ids_of (put_record_new id content was.records none) ∙ map-append (λ (item : Record). item.id) was.records (new_record id content ∷ []) in
    record {
      others = rw is (rw (← named) (others-replaced new databases));
      more = rw here (rw there ids);
    }

pub one_more : (id : ℕ) (place : Option ℕ) (content : ContentValue) (name : List ℕ) (databases databases' : List DatabaseValue)
    → IsSomeAnd (database_of name databases) (Takes id)
    → IfSome (database_of name databases) (λ was. databases' ≡ replaced (with_record id content was) databases)
    → place ≡ option_and_then (λ (database : DatabaseValue). place_of_id id database.records) (database_of name databases)
    → place ≡ None → HasOneMore name id databases databases'
one_more id place content name databases databases' takes put found none = by (database_of name databases) refl takes put found
  where
    by : (o : Option DatabaseValue)
        → database_of name databases ≡ o → IsSomeAnd o (Takes id) → IfSome o (λ was. databases' ≡ replaced (with_record id content was) databases)
        → place ≡ option_and_then (λ (database : DatabaseValue). place_of_id id database.records) o → HasOneMore name id databases databases'
    by None gone takes put found = absurd takes
    by (Some was) here takes put found = more_by id content name databases databases' was here put (sym found ∙ none)

put_again : (id place : ℕ) (content : ContentValue) (name : List ℕ) (databases databases' : List DatabaseValue) (indexes : List Index) (was : DatabaseValue)
    → database_of name databases ≡ Some was → databases' ≡ replaced (with_record id content was) databases
    → AreIndexes databases indexes → place_of_id id was.records ≡ Some place → AreIndexes databases' indexes
put_again id place content name databases databases' indexes was here is are found =
    let own : database_of was.head.name databases ≡ Some was = ap (λ n. database_of n databases) (database_of-name name databases was here) ∙ here in
    let ids : ids_of was.records ≡ ids_of (put_record id content was.records) = sym (ids_placed id place content was.records found) in
    rw is (AreIndexes-same (with_record id content was) databases indexes (rw own ids) are)

again_by : (id : ℕ) (place : Option ℕ) (content : ContentValue) (name : List ℕ) (databases databases' : List DatabaseValue)
    (indexes : List Index) (was : DatabaseValue) → database_of name databases ≡ Some was → databases' ≡ replaced (with_record id content was) databases
    → AreIndexes databases indexes → place ≡ place_of_id id was.records → is_none place ≡ false → AreIndexes databases' indexes
again_by id None content name databases databases' indexes was here is are found some = absurd cc
again_by id (Some place) content name databases databases' indexes was here is are found some =
    put_again id place content name databases databases' indexes was here is are (sym found)

-- a record that is written in its place changes no id
pub AreIndexes-again : (id : ℕ) (place : Option ℕ) (content : ContentValue) (name : List ℕ) (databases databases' : List DatabaseValue) (indexes : List Index)
    → IsSomeAnd (database_of name databases) (Takes id)
    → IfSome (database_of name databases) (λ was. databases' ≡ replaced (with_record id content was) databases) → AreIndexes databases indexes
    → place ≡ option_and_then (λ (database : DatabaseValue). place_of_id id database.records) (database_of name databases)
    → is_none place ≡ false → AreIndexes databases' indexes
AreIndexes-again id place content name databases databases' indexes takes put are found some = by (database_of name databases) refl takes put found
  where
    by : (o : Option DatabaseValue)
        → database_of name databases ≡ o → IsSomeAnd o (Takes id) → IfSome o (λ was. databases' ≡ replaced (with_record id content was) databases)
        → place ≡ option_and_then (λ (database : DatabaseValue). place_of_id id database.records) o → AreIndexes databases' indexes
    by None none takes put found = absurd takes
    by (Some was) here takes put found = again_by id place content name databases databases' indexes was here put are found some
