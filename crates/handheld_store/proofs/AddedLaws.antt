-- The index of a database that has one more record.
use Rattle.std.proofs.Common.{◌≡◌, ◌∙◌, ℕ, zero, suc, ◌<◌, Bool, List, [], ◌∷◌, ◌++◌, Option, Some, None, ap, get_or, length, slice_get, sym, subst}
use Rattle.std.specs.Prelude.{IfSome, IsSomeAnd, find, option_and_then, position, remove}
use Rattle.pdb_values.specs.Databases.{DatabaseValue}
use Rattle.pdb_values.specs.NamedDatabases.{database_of}
use Rattle.pdb_values.proofs.PlaceLaws.{find-position}
use Rattle.palm_device.specs.Soundness.{ids_of}
use Rattle.handheld_store.specs.Indexes.{AreIndexes, HasOneMore, is_of}
use Rattle.handheld_store.specs.declared.index.Index.{Index}
use Rattle.handheld_store.proofs.IndexLaws.{found}
use Rattle.handheld_files.proofs.FreshLaws.{get_some}

-- one of the indexes is taken out
pub AreIndexes-remove : (databases : List DatabaseValue) (indexes : List Index) (place : ℕ)
    → AreIndexes databases indexes → AreIndexes databases (remove indexes place)
AreIndexes-remove databases [] zero are = tt
AreIndexes-remove databases [] (suc place) are = tt
AreIndexes-remove databases (index ∷ indexes) zero are = are.1
AreIndexes-remove databases (index ∷ indexes) (suc place) are = (are.0, AreIndexes-remove databases indexes place are.1)

more_by : (ids : List ℕ) (id : ℕ) (was new : Option DatabaseValue) → IfSome was (λ (d : DatabaseValue). ids ≡ ids_of d.records)
    → IsSomeAnd was (λ (w : DatabaseValue). IfSome new (λ (d : DatabaseValue). ids_of d.records ≡ ids_of w.records ++ id ∷ []))
    → IfSome new (λ (d : DatabaseValue). ids_of d.records ≡ ids ++ id ∷ [])
more_by ids id None new is more = absurd more
more_by ids id (Some was) None is more = tt
more_by ids id (Some was) (Some new) is more = more ∙ ap (λ ids. ids ++ id ∷ []) (sym is)

-- the database of the index that was found has one id more
pub more_ids : (name : List ℕ) (id : ℕ) (was databases : List DatabaseValue) (old : List Index) (index : Index)
    → find (is_of name) old ≡ Some index → AreIndexes was old → HasOneMore name id was databases
    → IfSome (database_of index.name databases) (λ (d : DatabaseValue). ids_of d.records ≡ index.ids.keys ++ id ∷ [])
more_ids name id was databases old index first are one =
    let it = found was name old index first are in
    let tells : IfSome (database_of name was) (λ (d : DatabaseValue). index.ids.keys ≡ ids_of d.records) =
    subst (λ n. IfSome (database_of n was) (λ (d : DatabaseValue). index.ids.keys ≡ ids_of d.records)) (sym it.named) it.tells in
    subst (λ n. IfSome (database_of n databases) (λ (d : DatabaseValue). ids_of d.records ≡ index.ids.keys ++ id ∷ [])) it.named
    (more_by index.ids.keys id (database_of name was) (database_of name databases) tells one.more)

-- the first index of a name stands at its place
pub find_some : {X : Type 0} (test : X → Bool) (xs : List X) (k : ℕ) (x : X)
    → position test xs ≡ Some k → k < length xs → x ≡ get_or xs k x → Some x ≡ find test xs
find_some test xs k x here within is =
    sym (find-position test xs ∙ ap (option_and_then (slice_get xs)) here ∙ get_some xs k x within is)

pub find_none : {X : Type 0} (test : X → Bool) (xs : List X) → position test xs ≡ None → None ≡ find test xs
find_none test xs none = sym (find-position test xs ∙ ap (option_and_then (slice_get xs)) none)
