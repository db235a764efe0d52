-- Records that are written where they stand, and taken back where the file failed.
use Rattle.std.proofs.Common.{◌≡◌, ◌∙◌, ℕ, zero, suc, ◌<◌, ◌++◌, ◌∷◌, [], List, Option, Some, None, ap, get_or, inl, inr, length, refl, slice_get}
use Rattle.std.proofs.Common.{slice_set, subst, sym}
use Rattle.std.specs.Prelude.{IfSome, IsSome, IsSomeAnd, is_some, option_and_then, remove}
use Rattle.hs_folders.specs.FileMaps.{FileMap}
use Rattle.pdb_values.specs.Contents.{ContentValue}
use Rattle.pdb_values.specs.Databases.{DatabaseValue}
use Rattle.pdb_values.specs.NamedDatabases.{database_of, is_named, place_of, replaced, set_at}
use Rattle.pdb_values.specs.declared.head.DbHead.{DbHead}
use Rattle.pdb_values.specs.declared.record.Record.{Record}
use Rattle.pdb_values.specs.declared.user.UserInfo.{UserInfo}
use Rattle.pdb_values.proofs.NamedLaws.{database_of-name, replaced-own}
use Rattle.pdb_values.proofs.PlaceLaws.{find-position, position_found, position_within}
use Rattle.palm_device.specs.Records.{has_id, place_of_id, put_record, rewritten, with_records}
use Rattle.palm_device.specs.Soundness.{ids_of}
use Rattle.palm_device.proofs.RecordLaws.{put_record_at}
use Rattle.handheld_files.specs.Openings.{AreKept, Stands}
use Rattle.handheld_store.specs.Files.{Follows, HasText}
use Rattle.handheld_store.proofs.KeptLaws.{AreKept-replaced, Stands-replaced, database_of-own, database_of-place, is_settled}
use Rattle.handheld_store.specs.Ids.{IsTakenOrFree}
use Rattle.handheld_store.specs.Placed.{Takes, with_record}
use Rattle.handheld_store.proofs.ListLaws.{map-set}
use Rattle.handheld_store.proofs.SettledLaws.{are_settled-put_record}

set_back : {X : Type 0} (xs : List X) (k : ℕ) (x y : X) → slice_get xs k ≡ Some x → slice_set (slice_set xs k y) k x ≡ xs
set_back [] k x y here = absurd cc
set_back (z ∷ zs) zero x y here = let same : z ≡ x = cc in cc
set_back (z ∷ zs) (suc k) x y here = ap (λ ws. z ∷ ws) (set_back zs k x y here)

-- a record that is put back
pub record_back : (item was : Record) (place : ℕ) (old mid last : DatabaseValue) → slice_get old.records place ≡ Some was
    → mid ≡ with_records (slice_set old.records place item) old → last ≡ with_records (slice_set mid.records place was) mid → last ≡ old
record_back item was place old mid last here put back = rw (back, put, set_back old.records place was item here)

last_get : {X : Type 0} (xs : List X) (x : X) → slice_get (xs ++ x ∷ []) (length xs) ≡ Some x
last_get [] x = refl
last_get (y ∷ ys) x = last_get ys x

last_gone : {X : Type 0} (xs : List X) (x : X) → remove (xs ++ x ∷ []) (length xs) ≡ xs
last_gone [] x = refl
last_gone (y ∷ ys) x = ap (λ zs. y ∷ zs) (last_gone ys x)

-- a last record that is taken out again
pub last_back : (item : Record) (old mid last : DatabaseValue) (taken : Option Record)
    → mid ≡ with_records (old.records ++ item ∷ []) old → taken ≡ slice_get mid.records (length old.records)
    → (IsSome taken → last ≡ with_records (remove mid.records (length old.records)) mid) → last ≡ old
last_back item old mid last taken pushed is rest =
    let some : taken ≡ Some item = is ∙ ap (λ (d : DatabaseValue). slice_get d.records (length old.records)) pushed ∙ last_get old.records item in
    rw (rest (ap is_some some), pushed, last_gone old.records item)

-- ---- the database of a name

-- what is known where a database with the same head takes the place of the one of a name
pub record Placed (name : List ℕ) (databases databases' : List DatabaseValue) (was new : DatabaseValue) : Type 0 where
  pub named : new.head.name ≡ name
  pub head : was.head ≡ new.head
  pub here : database_of new.head.name databases ≡ Some was
  pub is : databases' ≡ replaced new databases

pub placed_at : (name : List ℕ) (databases : List DatabaseValue) (at : ℕ) (was new : DatabaseValue)
    → place_of name databases ≡ Some at → at < length databases → was ≡ get_or databases at was → new.head ≡ was.head
    → Placed name databases (slice_set databases at new) was new
placed_at name databases at was new found within there head =
    let here = database_of-place name databases at was found within there in
    let named : new.head.name ≡ name = ap (λ (h : DbHead). h.name) head ∙ database_of-name name databases was here in record {
      named = named;
      head = sym head;
      here = ap (λ n. database_of n databases) named ∙ here;
      is = sym (ap (λ o. set_at o new databases) (ap (λ n. place_of n databases) named ∙ found));
    }

pub placed_was : (name : List ℕ) (databases databases' : List DatabaseValue) (was new : DatabaseValue)
    → Placed name databases databases' was new → database_of name databases ≡ Some was
placed_was name databases databases' was new placed = cc (placed.named, placed.here)

pub AreKept-placed : (name : List ℕ) (databases databases' : List DatabaseValue) (was new : DatabaseValue)
    → Placed name databases databases' was new → AreKept databases → is_settled new → AreKept databases'
AreKept-placed name databases databases' was new placed kept settled = rw placed.is (AreKept-replaced new databases kept settled)

pub Follows-placed : (told told' : Option FileMap) (name : List ℕ) (databases databases' : List DatabaseValue) (was new : DatabaseValue)
    → Placed name databases databases' was new → Follows (Some was) (Some new) told told'
    → Follows (database_of name databases) (database_of name databases') told told'
Follows-placed told told' name databases databases' was new placed follows =
    let now : database_of name databases' ≡ Some new = ap (λ n. database_of n databases') (sym placed.named)
    ∙ ap (database_of new.head.name) placed.is ∙ database_of-own new was databases placed.here in
    rw (now, placed_was name databases databases' was new placed) follows

stands_by : (told told' : Option FileMap) (databases : List DatabaseValue) (was new : DatabaseValue) (user : UserInfo)
    → database_of new.head.name databases ≡ Some was → was.head ≡ new.head → AreKept databases → is_settled new → HasText was new
    → Follows (Some was) (Some new) told told' → Stands told databases user → Stands told' (replaced new databases) user
stands_by told told' databases was new user here head kept settled text (inl same) stands =
    let is : new ≡ was = (let both : ◌≡◌ {A = Option DatabaseValue} (Some new) (Some was) = same.0 in cc) in
    let stay : replaced new databases ≡ databases = replaced-own new databases (here ∙ ap Some (sym is)) in
    rw (same.1, stay) stands
stands_by told told' databases was new user here head kept settled text (inr other) stands =
    Stands-replaced told told' databases was new user other.1 (text (λ is. other.0 (ap Some is))) settled kept here head stands

pub Stands-placed : (told told' : Option FileMap) (name : List ℕ) (databases databases' : List DatabaseValue) (was new : DatabaseValue) (user : UserInfo)
    → Placed name databases databases' was new → AreKept databases → is_settled new → HasText was new
    → Follows (Some was) (Some new) told told' → Stands told databases user → Stands told' databases' user
Stands-placed told told' name databases databases' was new user placed kept settled text follows stands =
    rw placed.is (stands_by told told' databases was new user placed.here placed.head kept settled text follows stands)

-- the ids stay where a record is written that is there
pub ids_placed : (id place : ℕ) (content : ContentValue) (items : List Record)
    → place_of_id id items ≡ Some place → ids_of (put_record id content items) ≡ ids_of items
ids_placed id place content items found = by (slice_get items place) refl
  where
    by : (o : Option Record) → slice_get items place ≡ o → ids_of (put_record id content items) ≡ ids_of items
    by None none = absurd (position_within (has_id id) items place found none)
    by (Some item) here = ap ids_of (put_record_at id content items place item found here)
        ∙ map-set (λ (item : Record). item.id) items place (rewritten content item) item here refl

-- ---- what a call has to know

-- where no place was found, no database has the name
pub placed_nowhere : (place : Option ℕ) (id : ℕ) (content : ContentValue) (name : List ℕ) (databases : List DatabaseValue)
    → place_of name databases ≡ None → IfSome (database_of name databases) (λ was. databases ≡ replaced (with_record id content was) databases)
placed_nowhere place id content name databases none = rw (find-position (is_named name) databases, none) tt

-- the database at the place of its name takes the record
pub takes_at : (id : ℕ) (name : List ℕ) (databases : List DatabaseValue) (at : ℕ) (was : DatabaseValue) → place_of name databases ≡ Some at
    → at < length databases → was ≡ get_or databases at was → IsSomeAnd (database_of name databases) (Takes id) → Takes id was
takes_at id name databases at was found within there takes =
    subst (λ o. IsSomeAnd o (Takes id)) (database_of-place name databases at was found within there) takes

pub stands_at : (place : Option ℕ) (id : ℕ) (name : List ℕ) (databases : List DatabaseValue) (at : ℕ) (was : DatabaseValue)
    → place_of name databases ≡ Some at → at < length databases → was ≡ get_or databases at was
    → place ≡ option_and_then (λ (database : DatabaseValue). place_of_id id database.records) (database_of name databases) → place ≡ place_of_id id was.records
stands_at place id name databases at was found within there is = cc (database_of-place name databases at was found within there)

pub place_within_records : (place : Option ℕ) (id : ℕ) (items : List Record) → place ≡ place_of_id id items → IfSome place (λ at. at < length items)
place_within_records None id items is = tt
place_within_records (Some at) id items is = (position_found (has_id id) items at (sym is)).1

-- the database is another one of the same name, or the same
pub put_at_place : (id : ℕ) (content : ContentValue) (name : List ℕ) (databases : List DatabaseValue) (at : ℕ) (was new : DatabaseValue)
    → place_of name databases ≡ Some at → at < length databases → was ≡ get_or databases at was → new ≡ with_record id content was
    → Placed name databases (slice_set databases at new) was new
put_at_place id content name databases at was new found within there made =
    placed_at name databases at was new found within there (ap (λ (d : DatabaseValue). d.head) made)

pub put_is : (id : ℕ) (content : ContentValue) (name : List ℕ) (databases databases' : List DatabaseValue) (was new : DatabaseValue)
    → Placed name databases databases' was new → new ≡ with_record id content was
    → IfSome (database_of name databases) (λ was. databases' ≡ replaced (with_record id content was) databases)
put_is id content name databases databases' was new placed made =
    rw (placed_was name databases databases' was new placed) (placed.is ∙ ap (λ (d : DatabaseValue). replaced d databases) made)

-- it is settled
pub settled_placed : (place : Option ℕ) (id : ℕ) (content : ContentValue) (was new : DatabaseValue)
    → new ≡ with_record id content was → IsTakenOrFree id was.records → is_settled was → is_settled new
settled_placed place id content was new made free settled = subst is_settled (sym made) (are_settled-put_record id content was.records free settled)
