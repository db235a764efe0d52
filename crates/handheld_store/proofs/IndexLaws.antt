-- The ids that are kept beside a database.
use Rattle.std.proofs.Common.{◌≡◌, ℕ, suc, ◌+◌, ◌<◌, ◌≤◌, Bool, true, false, cond, not, List, [], ◌∷◌, ◌++◌, take, length, filter, position, refl, ap}
use Rattle.std.proofs.Common.{sym, subst, ◌∙◌, arith, Option, Some, None, get_or, nat_eq, eq-eqb, add-one}
use Rattle.std.specs.Prelude.{IfSome, find}
use Rattle.std.specs.Str.{bytes_eq}
use Rattle.std.proofs.lemmas.Bool.{eqb-true}
use Rattle.std.proofs.lemmas.List.{map-append}
use Rattle.pdb_values.specs.Databases.{DatabaseValue}
use Rattle.pdb_values.specs.NamedDatabases.{NamesRise, database_of, replaced, with_new, without_named}
use Rattle.pdb_values.specs.declared.record.Record.{Record}
use Rattle.pdb_values.proofs.NamedLaws.{bytes_eq-is, database_of-name, database_of-replaced, database_of-with_new, database_of-without_named, replaced-none}
use Rattle.pdb_values.proofs.PlaceLaws.{position-cons, position_found}
use Rattle.palm_device.specs.Records.{place_of_id}
use Rattle.palm_device.specs.Soundness.{ids_of}
use Rattle.handheld_store.specs.Indexes.{AreIndexes, AreOthers, IsIndexIn, is_of}
use Rattle.handheld_store.specs.declared.index.Index.{Index}
use Rattle.handheld_files.proofs.KeptLaws.{take_next_at}

-- ---- the ids of records

-- the ids of the next record and those before it
pub ids_next : (items : List Record) (k : ℕ) (item : Record)
    → k < length items → item ≡ get_or items k item → ids_of (take (suc k) items) ≡ ids_of (take k items) ++ item.id ∷ []
ids_next items k item within here = ap ids_of (take_next_at items k item within here) ∙ map-append (λ (item : Record). item.id) (take k items) (item ∷ [])

-- the next id is put behind those before it
pub ids_more : (items : List Record) (k : ℕ) (item : Record) (old new : List ℕ) → k < length items
    → item ≡ get_or items k item → old ≡ ids_of (take k items) → new ≡ old ++ item.id ∷ [] → new ≡ ids_of (take (k + 1) items)
ids_more items k item old new within here is added =
    added ∙ ap (λ ids. ids ++ item.id ∷ []) is ∙ sym (rw add-one (ids_next items k item within here))

-- one more of two lists of records with the same ids
pub same_more : (ones others : List Record) (k : ℕ) (one other : Record) → k < length ones
    → k < length others → one ≡ get_or ones k one → other ≡ get_or others k other → ids_of (take k ones) ≡ ids_of (take k others) → one.id ≡ other.id
    → ids_of (take (k + 1) ones) ≡ ids_of (take (k + 1) others)
same_more ones others k one other first second here there same id = rw add-one (ids_next ones k one first here
    ∙ ap (λ ids. ids ++ one.id ∷ []) same ∙ ap (λ n. ids_of (take k others) ++ n ∷ []) id ∙ sym (ids_next others k other second there))

same_test : (a b : ℕ) → nat_eq a b ≡ nat_eq b a
same_test a b = grind (arith, eq-eqb, eqb-true)

-- the place of an id among the ids is the record's
pub place_among_ids : (id : ℕ) (items : List Record) → position (nat_eq id) (ids_of items) ≡ place_of_id id items
place_among_ids id [] = refl
place_among_ids id (item ∷ items) = grind (arith, position-cons, position, same_test, place_among_ids id items)

-- ---- the index of a name

-- what is found has the name, and tells its database
pub record IsFound (databases : List DatabaseValue) (name : List ℕ) (index : Index) : Type 0 where
  pub named : name ≡ index.name
  pub tells : IsIndexIn databases index

found_by : (databases : List DatabaseValue) (name : List ℕ) (first index : Index) (rest : List Index) (b : Bool)
    → is_of name first ≡ b → cond b (Some first) (find (is_of name) rest) ≡ Some index → IsIndexIn databases first
    → (find (is_of name) rest ≡ Some index → IsFound databases name index) → IsFound databases name index
found_by databases name first index rest true own is tells later = let same : first ≡ index = cc in
    subst (IsFound databases name) same (record { named = bytes_eq-is name first.name own; tells = tells })
found_by databases name first index rest false own is tells later = later is

pub found : (databases : List DatabaseValue) (name : List ℕ) (indexes : List Index) (index : Index)
    → find (is_of name) indexes ≡ Some index → AreIndexes databases indexes → IsFound databases name index
found databases name [] index is are = absurd cc
found databases name (first ∷ rest) index is are =
    found_by databases name first index rest (is_of name first) refl is are.0 (λ later. found databases name rest index later are.1)

-- it has the ids of the database of its name
pub found_ids : (databases : List DatabaseValue) (name : List ℕ) (indexes : List Index) (index : Index) (database : DatabaseValue)
    → find (is_of name) indexes ≡ Some index → AreIndexes databases indexes → database_of name databases ≡ Some database
    → index.ids.keys ≡ ids_of database.records
found_ids databases name indexes index database is are here =
    let it = found databases name indexes index is are in
    subst (λ o. IfSome o (λ (d : DatabaseValue). index.ids.keys ≡ ids_of d.records)) (ap (λ n. database_of n databases) (sym it.named)
    ∙ here) it.tells

-- what an index says of a record's place
pub place_found : (databases : List DatabaseValue) (name : List ℕ) (indexes : List Index) (index : Index) (database : DatabaseValue)
    (id : ℕ) (result : Option ℕ) → find (is_of name) indexes ≡ Some index → AreIndexes databases indexes → database_of name databases ≡ Some database
    → result ≡ position (nat_eq id) index.ids.keys → result ≡ place_of_id id database.records
place_found databases name indexes index database id result is are here said =
    said ∙ ap (position (nat_eq id)) (found_ids databases name indexes index database is are here) ∙ place_among_ids id database.records

-- a place that was found lies within
pub place_within : (id : ℕ) (items : List Record) (result : Option ℕ)
    → result ≡ place_of_id id items → length items ≤ 65535 → IfSome result (λ place. place < 65535)
place_within id items None is few = tt
place_within id items (Some place) is few = let within = (position_found (λ (item : Record). nat_eq item.id id) items place (sym is)).1 in omega arith

-- ---- other databases

-- the indexes of all other names are still right
pub AreIndexes-others : (name : List ℕ) (old new : List DatabaseValue) (indexes : List Index)
    → AreOthers name old new → AreIndexes old indexes → AreIndexes new (filter (λ index. not (is_of name index)) indexes)
AreIndexes-others name old new [] others are = tt
AreIndexes-others name old new (first ∷ rest) others are = grind (arith, AreIndexes-others name old new rest others are.1)

other_by : (b : Bool) (mine rest : Option DatabaseValue) → b ≡ false → cond b mine rest ≡ rest
other_by true mine rest differs = absurd cc
other_by false mine rest differs = refl

-- with a new one
pub others-with_new : (new : DatabaseValue) (databases : List DatabaseValue)
    → database_of new.head.name databases ≡ None → AreOthers new.head.name databases (with_new new databases)
others-with_new new databases none = λ other differs. database_of-with_new other new databases none
    ∙ other_by (bytes_eq new.head.name other) (Some new) (database_of other databases) differs

-- without one
pub others-without_named : (name : List ℕ) (databases : List DatabaseValue) → NamesRise databases → AreOthers name databases (without_named name databases)
others-without_named name databases rise = λ other differs. database_of-without_named other name databases rise
    ∙ other_by (bytes_eq name other) None (database_of other databases) differs

-- with another one
pub others-replaced : (new : DatabaseValue) (databases : List DatabaseValue) → AreOthers new.head.name databases (replaced new databases)
others-replaced new databases = by (database_of new.head.name databases) refl
  where
    by : (o : Option DatabaseValue) → database_of new.head.name databases ≡ o → AreOthers new.head.name databases (replaced new databases)
    by None none = λ other differs. ap (database_of other) (replaced-none new databases none)
    by (Some was) here = λ other differs. database_of-replaced other new was databases here
        ∙ other_by (bytes_eq new.head.name other) (Some new) (database_of other databases) differs

-- ---- another one with the same ids

same_by : (new : DatabaseValue) (index : Index) (old : Option DatabaseValue) (b : Bool)
    → IfSome old (λ (d : DatabaseValue). index.ids.keys ≡ ids_of d.records) → (b ≡ true → index.ids.keys ≡ ids_of new.records)
    → IfSome (cond b (Some new) old) (λ (d : DatabaseValue). index.ids.keys ≡ ids_of d.records)
same_by new index old true was own = own refl
same_by new index old false was own = was

each_same : (new was : DatabaseValue) (databases : List DatabaseValue) (indexes : List Index) → database_of new.head.name databases ≡ Some was
    → ids_of was.records ≡ ids_of new.records → AreIndexes databases indexes → AreIndexes (replaced new databases) indexes
each_same new was databases [] here same are = tt
each_same new was databases (first ∷ rest) here same are = (
  subst (λ o. IfSome o (λ (d : DatabaseValue). first.ids.keys ≡ ids_of d.records))
      (sym (database_of-replaced first.name new was databases here))
      (same_by new first (database_of first.name databases) (bytes_eq new.head.name first.name) are.0 (λ own.
      subst (λ o. IfSome o (λ (d : DatabaseValue). first.ids.keys ≡ ids_of d.records))
      (ap (λ n. database_of n databases) (sym (bytes_eq-is new.head.name first.name own)) ∙ here) are.0 ∙ same)),
  each_same new was databases rest here same are.1,
)

pub AreIndexes-same : (new : DatabaseValue) (databases : List DatabaseValue) (indexes : List Index) → IfSome (database_of new.head.name databases)
    (λ was. ids_of was.records ≡ ids_of new.records) → AreIndexes databases indexes → AreIndexes (replaced new databases) indexes
AreIndexes-same new databases indexes same are = by (database_of new.head.name databases) refl same
  where
    by : (o : Option DatabaseValue)
        → database_of new.head.name databases ≡ o → IfSome o (λ was. ids_of was.records ≡ ids_of new.records) → AreIndexes (replaced new databases) indexes
    by None none same = subst (λ ds. AreIndexes ds indexes) (sym (replaced-none new databases none)) are
    by (Some was) here same = each_same new was databases indexes here same are

-- ---- as a store keeps them

-- the indexes that are left once those of a name are forgotten
pub left_right : (name : List ℕ) (databases databases' : List DatabaseValue) (old left : List Index)
    → AreOthers name databases databases' → AreIndexes databases old → left ≡ filter (λ index. not (is_of name index)) old → AreIndexes databases' left
left_right name databases databases' old left others are is = rw is (AreIndexes-others name databases databases' old others are)

-- the indexes that are left serve whether another database takes the place of the one of its name or not
pub record Serve (new : DatabaseValue) (databases : List DatabaseValue) (left : List Index) : Type 0 where
  pub before : AreIndexes databases left
  pub after : AreIndexes (replaced new databases) left

pub serve_forgotten : (new : DatabaseValue) (databases : List DatabaseValue) (old left : List Index)
    → AreIndexes databases old → left ≡ filter (λ index. not (is_of new.head.name index)) old → Serve new databases left
serve_forgotten new databases old left are is = record {
  before = left_right new.head.name databases databases old left (λ other differs. refl) are is;
  after = left_right new.head.name databases (replaced new databases) old left (others-replaced new databases) are is;
}

pub serve_same : (new : DatabaseValue) (databases : List DatabaseValue) (left : List Index)
    → AreIndexes databases left → IfSome (database_of new.head.name databases) (λ was. ids_of was.records ≡ ids_of new.records) → Serve new databases left
serve_same new databases left are same = record { before = are; after = AreIndexes-same new databases left same are }

-- the database of a name is that of its own
pub named_own : (name : List ℕ) (databases : List DatabaseValue) (database : DatabaseValue)
    → database_of name databases ≡ Some database → database_of database.head.name databases ≡ Some database
named_own name databases database here = grind (arith, database_of-name)
