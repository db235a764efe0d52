-- When an edit makes another database.
use Rattle.std.proofs.lemmas.Grind.{common_steps}
use Rattle.std.proofs.Common.{◌≡◌, ℕ, zero, suc, Bool, true, false, cond, not, ◌&&◌, ◌||◌, List, [], ◌∷◌, ◌++◌, map, length, refl, ap, sym, ◌∙◌, arith}
use Rattle.std.proofs.Common.{slice_get, slice_set}
use Rattle.std.specs.Prelude.{Option, None, Some, IsTrue, filter, find, is_some, position}
use Rattle.std.specs.Option.{option_map}
use Rattle.std.specs.List.{list_all, list_any}
use Rattle.std.proofs.lemmas.Bool.Decides.{nat_tests}
use Rattle.pdb_values.specs.Contents.{ContentValue}
use Rattle.pdb_values.specs.Databases.{DatabaseValue}
use Rattle.pdb_values.specs.Resources as values
use Rattle.pdb_values.specs.declared.record.Record.{Record}
use Rattle.pdb_values.specs.declared.resource.Resource.{Resource}
use Rattle.pdb_values.proofs.PlaceLaws.{is_some-position}
use Rattle.palm_device.specs.Edits.{Tells}
use Rattle.palm_device.specs.Entries.{change_at, set_some, without_entry}
use Rattle.palm_device.specs.Records.{clean, move_category, moved, place_of_id, put_record, reset_flags, stays_in, with_records, without_record}
use Rattle.palm_device.specs.Resources.{is_resource, new_resource, place_of_resource, put_resource, with_resources, without_resource}
use Rattle.palm_device.proofs.BoundLaws.{length-filter}
use Rattle.palm_device.proofs.EntryLaws.{filter_all, put_entry_at, without_entry_none}
use Rattle.palm_device.proofs.RecordLaws.{put_record_new}
use Rattle.palm_device.proofs.ResourceLaws.{put_resource_new, without_resource_none}

-- ---- lists

pub set_own : {X : Type 0} (xs : List X) (k : ℕ) {x : X} → slice_get xs k ≡ Some x → slice_set xs k x ≡ xs
set_own [] k here = refl
set_own (y ∷ ys) zero {x} here = let same : y ≡ x = cc in ap (λ z. z ∷ ys) (sym same)
set_own (y ∷ ys) (suc k) here = ap (λ zs. y ∷ zs) (set_own ys k here)

pub get_set : {X : Type 0} (xs : List X) (k : ℕ) (x : X) {old : X} → slice_get xs k ≡ Some old → slice_get (slice_set xs k x) k ≡ Some x
get_set [] k x here = absurd cc
get_set (y ∷ ys) zero x here = refl
get_set (y ∷ ys) (suc k) x here = get_set ys k x here

-- where an entry passes the test, the list is another one without it
without_differs : {X : Type 0} (test : X → Bool) (xs : List X) → list_any test xs ≡ true → without_entry test xs ≡ xs → ⊥
unfolding without_entry
without_differs test [] some same = absurd cc
without_differs {X = X} test (x ∷ xs) some same = grind (arith, without_differs test xs)

-- where all that is kept is all, all is kept
all_kept : {X : Type 0} (keep : X → Bool) (xs : List X) → filter keep xs ≡ xs → list_all keep xs ≡ true
all_kept keep [] same = refl
all_kept keep (x ∷ xs) same = elim (keep x) as (λ b. cond b (x ∷ filter keep xs) (filter keep xs) ≡ x ∷ xs → (b && list_all keep xs) ≡ true) [
  | true ↦ λ same. all_kept keep xs (let rest : filter keep xs ≡ xs = cc in rest)
  | false ↦ λ same. absurd (let many : length (filter keep xs) ≡ length (x ∷ xs) = ap length same in let few = length-filter keep xs in omega arith)
] same

longer : {X : Type 0} {xs : List X} (x : X) → xs ++ x ∷ [] ≡ xs → ⊥
longer x same = grind (arith, nat_tests, common_steps)

-- an entry that passes has a place
placed_any : {X : Type 0} (test : X → Bool) (xs : List X) → is_some (position test xs) ≡ list_any test xs
placed_any {X = X} test xs = is_some-position test xs ∙ found xs
  where
    found : (ys : List X) → is_some (find test ys) ≡ list_any test ys
    found [] = refl
    found (y ∷ ys) = let rest = found ys in
        elim (test y) as (λ b. is_some (cond b (Some y) (find test ys)) ≡ (b || list_any test ys)) [ true ↦ refl | false ↦ rest ]

pub none_where : {X : Type 0} (o : Option X) → is_some o ≡ false → o ≡ None
none_where o e = grind arith

-- ---- an answer

-- ---- blocks

pub tells_app : (old : DatabaseValue) (block : Option (List ℕ)) (same : Bool) → (IsTrue same → block ≡ old.app) → (block ≡ old.app → IsTrue same)
    → Tells old (record old { app = block }) (not same)
tells_app old block same fwd back = grind arith

pub tells_sort : (old : DatabaseValue) (block : Option (List ℕ)) (same : Bool) → (IsTrue same → block ≡ old.sort) → (block ≡ old.sort → IsTrue same)
    → Tells old (record old { sort = block }) (not same)
tells_sort old block same fwd back = grind arith

-- ---- records

tells_records : (items : List Record) (old : DatabaseValue) (same : Bool) → (same ≡ true → items ≡ old.records) → (items ≡ old.records → same ≡ true)
    → Tells old (with_records items old) (not same)
tells_records items old same fwd back = grind arith

change_is : (change : Record → Record) (items : List Record) (k : ℕ) {item : Record} → slice_get items k ≡ Some item
    → change_at change k items ≡ slice_set items k (change item)
change_is change items k here = ap (λ o. set_some k items (option_map change o)) here

-- one record is changed, where it is there
pub tells_change : (change : Record → Record) (old : DatabaseValue) (place : ℕ) (item : Record) (same : Bool)
    → slice_get old.records place ≡ Some item
    → (IsTrue same → change item ≡ item) → (change item ≡ item → IsTrue same)
    → Tells old (with_records (change_at change place old.records) old) (not same)
tells_change change old place item same here fwd back = grind (arith, nat_tests, common_steps, slice_set, change_is, tells_records, set_own, get_set)

pub tells_no_change : (change : Record → Record) (old : DatabaseValue) (place : ℕ) → slice_get old.records place ≡ None
    → Tells old (with_records (change_at change place old.records) old) false
tells_no_change change old place none = grind arith

-- a new record
pub tells_new_record : (id : ℕ) (content : ContentValue) (old : DatabaseValue) → place_of_id id old.records ≡ None
    → Tells old (with_records (put_record id content old.records) old) true
tells_new_record id content old none = grind (arith, longer, put_record_new)

-- the record of an id is taken out
pub tells_purge : (id : ℕ) (old : DatabaseValue) (found : Bool) → found ≡ is_some (place_of_id id old.records)
    → Tells old (with_records (without_record id old.records) old) found
tells_purge id old found is = grind (arith, without_entry_none, none_where, without_differs, placed_any)

-- only such records are kept
pub tells_keep : (keep : Record → Bool) (old : DatabaseValue) (all : Bool) → all ≡ list_all keep old.records
    → Tells old (with_records (filter keep old.records) old) (not all)
tells_keep keep old all is = grind (arith, tells_records, filter_all, all_kept)

-- every record is taken out
pub tells_no_records : (old : DatabaseValue) (none : Bool) → (IsTrue none → old.records ≡ []) → (old.records ≡ [] → IsTrue none)
    → Tells old (with_records [] old) (not none)
tells_no_records old none fwd back = grind arith

clean_same : (items : List Record) → list_any (λ item. item.dirty) items ≡ false → map clean items ≡ items
clean_same [] none = refl
clean_same (item ∷ items) none = grind (arith, nat_tests, common_steps, clean_same items)

clean_differs : (items : List Record) → list_any (λ item. item.dirty) items ≡ true → map clean items ≡ items → ⊥
clean_differs [] some same = absurd cc
clean_differs (item ∷ items) some same = grind (arith, nat_tests, common_steps, clean_differs items)

-- dirty bits are cleared
pub tells_flags : (old : DatabaseValue) (some : Bool) → some ≡ list_any (λ item. item.dirty) old.records
    → Tells old (with_records (reset_flags old.records) old) some
tells_flags old some is = grind (arith, clean_same, clean_differs)

-- a record stays exactly where the test says so
stays_same : (from to : ℕ) (item : Record) → stays_in from to item ≡ true → moved from to item ≡ item
stays_same from to item is = grind arith

all_stay_same : (from to : ℕ) (items : List Record) → list_all (stays_in from to) items ≡ true → move_category from to items ≡ items
all_stay_same from to [] all = refl
all_stay_same from to (item ∷ items) all = grind (arith, all_stay_same from to items)

same_all_stay : (from to : ℕ) (items : List Record) → move_category from to items ≡ items → list_all (stays_in from to) items ≡ true
same_all_stay from to [] same = refl
same_all_stay from to (item ∷ items) same = grind (arith, same_all_stay from to items)

-- every record of one category goes to another
pub tells_moved : (from to : ℕ) (old : DatabaseValue) (same : Bool) → same ≡ list_all (stays_in from to) old.records
    → Tells old (with_records (move_category from to old.records) old) (not same)
tells_moved from to old same is = grind (arith, tells_records, all_stay_same, same_all_stay)

-- ---- resources

pub tells_resources : (items : List Resource) (old : DatabaseValue) (same : Bool) → (IsTrue same → items ≡ old.resources)
    → (items ≡ old.resources → IsTrue same) → Tells old (with_resources items old) (not same)
tells_resources items old same fwd back = grind arith

pub tells_no_resources : (old : DatabaseValue) (none : Bool) → (IsTrue none → old.resources ≡ []) → (old.resources ≡ [] → IsTrue none)
    → Tells old (with_resources [] old) (not none)
tells_no_resources old none fwd back = grind arith

put_placed : (kind : List ℕ) (id : ℕ) (bytes : List ℕ) (items : List Resource) {place : ℕ} {resource : Resource}
    → place_of_resource kind id items ≡ Some place → slice_get items place ≡ Some resource
    → put_resource kind id bytes items ≡ slice_set items place (values.with_bytes bytes resource)
put_placed kind id bytes items found here =
    put_entry_at (is_resource kind id) (values.with_bytes bytes) (new_resource kind id bytes) items found here

-- the bytes that stand there already change nothing
pub put_resource_same : (kind : List ℕ) (id : ℕ) {bytes : List ℕ} (items : List Resource) {place : ℕ} {resource : Resource}
    → place_of_resource kind id items ≡ Some place → slice_get items place ≡ Some resource → resource.bytes ≡ bytes
    → put_resource kind id bytes items ≡ items
put_resource_same kind id {bytes} items {place} {resource} found here same =
    grind (arith, nat_tests, common_steps, put_placed kind id bytes items found here, slice_set items place, set_own items place here)

-- what changes nothing are the bytes that stand there
pub put_resource_own : (kind : List ℕ) (id : ℕ) (bytes : List ℕ) {items : List Resource} {place : ℕ} {resource : Resource}
    → place_of_resource kind id items ≡ Some place → slice_get items place ≡ Some resource → put_resource kind id bytes items ≡ items
    → resource.bytes ≡ bytes
put_resource_own kind id bytes {items} {place} {resource} found here same =
    cc (get_set items place (values.with_bytes bytes resource) here, put_placed kind id bytes items found here)

-- a new one changes something
pub put_resource_longer : (kind : List ℕ) (id : ℕ) (bytes : List ℕ) {items : List Resource} → place_of_resource kind id items ≡ None
    → put_resource kind id bytes items ≡ items → ⊥
put_resource_longer kind id bytes none same = grind (arith, longer, put_resource_new)

-- the first resource of a type and id is taken out
pub tells_purge_resource : (kind : List ℕ) (id : ℕ) (old : DatabaseValue) (found : Bool) → found ≡ is_some (place_of_resource kind id old.resources)
    → Tells old (with_resources (without_resource kind id old.resources) old) found
tells_purge_resource kind id old found is = grind (arith, without_resource_none, none_where, without_differs, placed_any)
