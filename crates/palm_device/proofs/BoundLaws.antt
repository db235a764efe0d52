-- Databases within their bounds stay so where their records, resources or blocks become others.
use Rattle.std.proofs.lemmas.Bool.Decides.{nat_tests}
use Rattle.std.proofs.lemmas.Grind.{common_steps}
use Rattle.std.proofs.Common.{◌≡◌, ◌<◌, ◌≤◌, ◌+◌, ◌^◌, length-append, ℕ, zero, suc, Bool, true, false, List, [], ◌∷◌, map, drop, take, length, refl, ap, subst}
use Rattle.std.proofs.Common.{◌∙◌, arith, Option, Some, None, slice_get}
use Rattle.std.specs.Prelude.{All, filter, position}
use Rattle.std.specs.List.{AllByRecursion}
use Rattle.std.proofs.lemmas.Bool.{both_ways}
use Rattle.std.proofs.lemmas.List.{length-set}
use Rattle.pdb_values.specs.Blocks.{block_length}
use Rattle.pdb_values.specs.Contents.{ContentValue}
use Rattle.pdb_values.specs.Databases.{DatabaseValue, IsShortResource}
use Rattle.pdb_values.specs.Heads.{holds_resources}
use Rattle.pdb_values.specs.declared.head.DbHead.{DbHead}
use Rattle.pdb_values.specs.declared.record.Record.{Record}
use Rattle.pdb_values.specs.declared.resource.Resource.{Resource}
use Rattle.palm_device.specs.Blocks.{block_or_none, empty_database}
use Rattle.palm_device.specs.Bounds.{IsBoundedDatabase, IsBoundedHead, IsBoundedRecord, IsBoundedResource}
use Rattle.palm_device.specs.Entries.{put_entry, without_entry}
use Rattle.palm_device.specs.Records.{clean, moved, place_of_id, put_record, with_records}
use Rattle.palm_device.specs.Resources.{place_of_resource, put_resource, with_resources}
use Rattle.palm_device.proofs.EntryLaws.{put_entry_at, put_entry_new}
use Rattle.pdb_values.proofs.PlaceLaws.{position_within}

-- ---- lists

pub AllByRecursion-filter : {X : Type 0} (P : X → Type 0) (keep : X → Bool) (xs : List X) → AllByRecursion P xs → AllByRecursion P (filter keep xs)
AllByRecursion-filter P keep [] each = tt
AllByRecursion-filter P keep (x ∷ xs) each = grind (arith, AllByRecursion-filter P keep xs)

pub AllByRecursion-without : {X : Type 0} (P : X → Type 0) (test : X → Bool) (xs : List X) → AllByRecursion P xs
    → AllByRecursion P (without_entry test xs)
unfolding without_entry
AllByRecursion-without P test [] each = tt
AllByRecursion-without P test (x ∷ xs) each = grind (arith, AllByRecursion-without P test xs)

pub AllByRecursion-map : {X : Type 0} (P : X → Type 0) (change : X → X) (xs : List X) → ((x : X) → P x → P (change x)) → AllByRecursion P xs
    → AllByRecursion P (map change xs)
AllByRecursion-map P change [] keeps each = tt
AllByRecursion-map P change (x ∷ xs) keeps each = (keeps x each.0, AllByRecursion-map P change xs keeps each.1)

pub AllByRecursion-put : {X : Type 0} (P : X → Type 0) (test : X → Bool) (change : X → X) (new : X) (xs : List X) → ((x : X) → P x → P (change x))
    → P new → AllByRecursion P xs → AllByRecursion P (put_entry test change new xs)
unfolding put_entry
AllByRecursion-put P test change new [] keeps made each = (made, tt)
AllByRecursion-put P test change new (x ∷ xs) keeps made each = grind (arith, AllByRecursion-put P test change new xs)

pub AllByRecursion-get : {X : Type 0} (P : X → Type 0) (xs : List X) (k : ℕ) (x : X) → AllByRecursion P xs → slice_get xs k ≡ Some x → P x
AllByRecursion-get P [] k x each here = absurd cc
AllByRecursion-get P (y ∷ ys) zero x each here = let same : y ≡ x = cc in subst P same each.0
AllByRecursion-get P (y ∷ ys) (suc k) x each here = AllByRecursion-get P ys k x each.1 here

pub AllByRecursion-drop : {X : Type 0} (P : X → Type 0) (k : ℕ) (xs : List X) → AllByRecursion P xs → AllByRecursion P (drop k xs)
AllByRecursion-drop P zero xs each = each
AllByRecursion-drop P (suc k) [] each = tt
AllByRecursion-drop P (suc k) (x ∷ xs) each = AllByRecursion-drop P k xs each.1

pub AllByRecursion-take : {X : Type 0} (P : X → Type 0) (k : ℕ) (xs : List X) → AllByRecursion P xs → AllByRecursion P (take k xs)
AllByRecursion-take P zero xs each = tt
AllByRecursion-take P (suc k) [] each = tt
AllByRecursion-take P (suc k) (x ∷ xs) each = (each.0, AllByRecursion-take P k xs each.1)

-- an entry that is found lies within
pub slice_get-within : {X : Type 0} (xs : List X) (k : ℕ) (x : X) → slice_get xs k ≡ Some x → k < length xs
slice_get-within [] k x here = absurd cc
slice_get-within (y ∷ ys) zero x here = omega arith
slice_get-within (y ∷ ys) (suc k) x here = let later = slice_get-within ys k x here in omega arith

pub length-filter : {X : Type 0} (keep : X → Bool) (xs : List X) → length (filter keep xs) ≤ length xs
length-filter keep [] = omega arith
length-filter keep (x ∷ xs) = grind (arith, nat_tests, common_steps, length-filter keep xs)

pub length-without : {X : Type 0} (test : X → Bool) (xs : List X) → length (without_entry test xs) ≤ length xs
unfolding without_entry
length-without test [] = omega arith
length-without test (x ∷ xs) = grind (arith, nat_tests, common_steps, length-without test xs)

pub length-map : {X : Type 0} (change : X → X) (xs : List X) → length (map change xs) ≡ length xs
length-map change [] = refl
length-map change (x ∷ xs) = ap suc (length-map change xs)

-- a new one where there is room, or one in its place
pub length-put : {X : Type 0} (test : X → Bool) (change : X → X) (new : X) (xs : List X) (limit : ℕ) → (position test xs ≡ None → length xs < limit)
    → length xs ≤ limit → length (put_entry test change new xs) ≤ limit
length-put {X = X} test change new xs limit room few = by (position test xs) refl
  where
    at : (k : ℕ) (o : Option X) → position test xs ≡ Some k → slice_get xs k ≡ o → length (put_entry test change new xs) ≤ limit
    at k None found here = absurd (position_within test xs k found here)
    at k (Some x) found here = let same : length (put_entry test change new xs) ≡ length xs =
        ap length (put_entry_at test change new xs found here) ∙ length-set xs k (change x) in omega arith

    by : (o : Option ℕ) → position test xs ≡ o → length (put_entry test change new xs) ≤ limit
    by None none = let more : length (put_entry test change new xs) ≡ length xs + 1 = ap length (put_entry_new test change new xs none)
        ∙ length-append xs (new ∷ []) in let space = room none in omega arith
    by (Some k) found = at k (slice_get xs k) found refl

-- ---- databases

-- other records, where the database holds records, or none
pub IsBoundedDatabase-records : (items : List Record) (database : DatabaseValue) → holds_resources database.head.attributes ≡ false
    → length items ≤ 65535 → AllByRecursion IsBoundedRecord items → IsBoundedDatabase database
    → IsBoundedDatabase (with_records items database)
IsBoundedDatabase-records items database holds few each bounded = grind arith

all_short : (items : List Resource) → AllByRecursion IsBoundedResource items → All IsShortResource items
all_short [] each k d within = absurd (omega arith)
all_short (x ∷ xs) each zero d within = each.0.short
all_short (x ∷ xs) each (suc k) d within = all_short xs each.1 k d (omega arith)

-- other resources, where it holds resources
pub IsBoundedDatabase-resources : (items : List Resource) (database : DatabaseValue) → holds_resources database.head.attributes ≡ true
    → length items ≤ 65535 → AllByRecursion IsBoundedResource items → IsBoundedDatabase database
    → IsBoundedDatabase (with_resources items database)
IsBoundedDatabase-resources items database holds few each bounded = grind (arith, both_ways, all_short)

block_short : (bytes : List ℕ) → length bytes ≤ 65500 → block_length (block_or_none bytes) ≤ 65500
block_short bytes short = grind arith

-- a database with nothing in it
pub IsBoundedDatabase-empty : (head : DbHead) → IsBoundedHead head → IsBoundedDatabase (empty_database head)
IsBoundedDatabase-empty head bounded = grind arith

-- ---- edits of records and resources

pub IsBoundedRecord-moved : (from to : ℕ) (item : Record) → to ≤ 15 → IsBoundedRecord item → IsBoundedRecord (moved from to item)
IsBoundedRecord-moved from to item sorted bounded = grind arith

pub IsBoundedRecord-clean : (item : Record) → IsBoundedRecord item → IsBoundedRecord (clean item)
IsBoundedRecord-clean item bounded = grind arith

pub IsBoundedDatabase-put_record : (id : ℕ) (content : ContentValue) (database : DatabaseValue) → holds_resources database.head.attributes ≡ false
    → id ≤ 16777215 → content.category ≤ 15 → length content.bytes ≤ 65500
    → (place_of_id id database.records ≡ None → length database.records < 65535) → IsBoundedDatabase database
    → IsBoundedDatabase (with_records (put_record id content database.records) database)
IsBoundedDatabase-put_record id content database holds small sorted short room bounded = grind
    (arith, IsBoundedDatabase-records, length-put, AllByRecursion-put)

pub IsBoundedDatabase-put_resource : (kind : List ℕ) (id : ℕ) (bytes : List ℕ) (database : DatabaseValue)
    → holds_resources database.head.attributes ≡ true → length kind ≡ 4 → id < 2 ^ 16 → length bytes ≤ 65500
    → (place_of_resource kind id database.resources ≡ None → length database.resources < 65535) → IsBoundedDatabase database
    → IsBoundedDatabase (with_resources (put_resource kind id bytes database.resources) database)
IsBoundedDatabase-put_resource kind id bytes database holds four small short room bounded = grind
    (arith, IsBoundedDatabase-resources, length-put, AllByRecursion-put)
