-- Ids that differ, and of which none is 0, stay so through each operation on records.
use Rattle.std.proofs.lemmas.Grind.{common_steps}
use Rattle.std.proofs.Common.{◌≡◌, ℕ, ◌<◌, Bool, false, cond, List, [], ◌∷◌, map, refl, arith}
use Rattle.std.specs.Prelude.{filter, ◌==◌}
use Rattle.std.proofs.lemmas.Bool.Decides.{nat_tests}
use Rattle.pdb_values.specs.Contents.{ContentValue}
use Rattle.pdb_values.specs.declared.record.Record.{Record}
use Rattle.palm_device.specs.Entries.{put_entry, without_entry}
use Rattle.palm_device.specs.FreshIds.{is_among}
use Rattle.palm_device.specs.Records.{has_id, rewritten, put_record, without_record}
use Rattle.palm_device.specs.Soundness.{ids_of, AreIds}

-- ---- records that are left out

pub among_filter : (keep : Record → Bool) (id : ℕ) (items : List Record) → is_among id (ids_of items) ≡ false
    → is_among id (ids_of (filter keep items)) ≡ false
among_filter keep id [] none = refl
among_filter keep id (item ∷ items) none = grind (arith, among_filter keep id items)

pub AreIds-filter : (keep : Record → Bool) (items : List Record) → AreIds (ids_of items) → AreIds (ids_of (filter keep items))
AreIds-filter keep [] ids = tt
AreIds-filter keep (item ∷ items) ids = grind (arith, nat_tests, common_steps, AreIds-filter keep items, among_filter)

among_without : (test : Record → Bool) (id : ℕ) (items : List Record) → is_among id (ids_of items) ≡ false
    → is_among id (ids_of (without_entry test items)) ≡ false
unfolding without_entry
among_without test id [] none = refl
among_without test id (item ∷ items) none = grind (arith, among_without test id items)

AreIds-without : (test : Record → Bool) (items : List Record) → AreIds (ids_of items) → AreIds (ids_of (without_entry test items))
unfolding without_entry
AreIds-without test [] ids = tt
AreIds-without test (item ∷ items) ids = grind (arith, nat_tests, common_steps, AreIds-without test items, among_without)

pub AreIds-without_record : (id : ℕ) (items : List Record) → AreIds (ids_of items) → AreIds (ids_of (without_record id items))
AreIds-without_record id items ids = AreIds-without (has_id id) items ids

-- ---- records that change

pub ids_of-map : (change : Record → Record) (items : List Record) → ((item : Record) → (change item).id ≡ item.id)
    → ids_of (map change items) ≡ ids_of items
ids_of-map change [] same = refl
ids_of-map change (item ∷ items) same = grind (arith, ids_of-map change items)

-- ---- a record that is put

other_way : (a b : ℕ) → (a == b) ≡ false → (b == a) ≡ false
other_way a b differ = grind (arith, nat_tests)

among_put : (id : ℕ) (content : ContentValue) (other : ℕ) (items : List Record) → (id == other) ≡ false → is_among other (ids_of items) ≡ false
    → is_among other (ids_of (put_record id content items)) ≡ false
unfolding put_entry
among_put id content other [] differ none = rw differ refl
among_put id content other (item ∷ items) differ none = grind (arith, among_put id content other items)

put_by : (id : ℕ) (content : ContentValue) (item : Record) (items : List Record) (b : Bool) → (item.id == id) ≡ b → AreIds (ids_of (item ∷ items))
    → AreIds (ids_of (put_record id content items)) → AreIds (ids_of (cond b (rewritten content item ∷ items) (item ∷ put_record id content items)))
put_by id content item items b is ids later = grind (arith, among_put, other_way)

pub AreIds-put : (id : ℕ) (content : ContentValue) (items : List Record) → 0 < id → AreIds (ids_of items)
    → AreIds (ids_of (put_record id content items))
unfolding put_entry
AreIds-put id content [] some ids = (some, refl, tt)
AreIds-put id content (item ∷ items) some ids = grind (arith, nat_tests, common_steps, AreIds-put id content items, put_by)
