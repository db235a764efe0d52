-- A record that is put, by its place.
use Rattle.std.proofs.Common.{◌≡◌, ℕ, List, [], ◌∷◌, ◌++◌, Some, None, slice_get, slice_set, arith}
use Rattle.std.specs.Prelude.{remove}
use Rattle.pdb_values.specs.Contents.{ContentValue}
use Rattle.pdb_values.specs.declared.record.Record.{Record}
use Rattle.palm_device.specs.Entries.{change_at}
use Rattle.palm_device.specs.Records.{has_id, place_of_id, rewritten, new_record, put_record, without_record}
use Rattle.pdb_values.proofs.PlaceLaws.{position_within}
use Rattle.palm_device.proofs.EntryLaws.{put_entry_at, put_entry_new, without_entry_at, without_entry_none}

-- in its place
pub put_record_at : (id : ℕ) (content : ContentValue) (records : List Record) (place : ℕ) (item : Record) → place_of_id id records ≡ Some place
    → slice_get records place ≡ Some item → put_record id content records ≡ slice_set records place (rewritten content item)
put_record_at id content records place item found here =
    put_entry_at (has_id id) (rewritten content) (new_record id content) records found here

-- the same as a change at its place
pub put_record_placed : (id : ℕ) (content : ContentValue) (records : List Record) (place : ℕ) → place_of_id id records ≡ Some place
    → put_record id content records ≡ change_at (rewritten content) place records
put_record_placed id content records place found = grind (arith, position_within, put_record_at)

-- a new last one
pub put_record_new : (id : ℕ) (content : ContentValue) (records : List Record) → place_of_id id records ≡ None
    → put_record id content records ≡ records ++ new_record id content ∷ []
put_record_new id content records none = grind (arith, put_entry_new)

-- the record at its place is gone
pub without_record_at : (id : ℕ) (records : List Record) (place : ℕ) → place_of_id id records ≡ Some place
    → without_record id records ≡ remove records place
without_record_at id records place found = without_entry_at (has_id id) records found

-- where there is none, all stay
pub without_record_none : (id : ℕ) (records : List Record) → place_of_id id records ≡ None → without_record id records ≡ records
without_record_none id records none = without_entry_none (has_id id) records none
