-- A record that is written in its place.
use Rattle.std.specs.Prelude.{◌≡◌, ◌<◌, ◌≤◌, ℕ, true, false, length, None}
use Rattle.pdb_values.specs.Contents.{ContentValue}
use Rattle.pdb_values.specs.Databases.{DatabaseValue}
use Rattle.pdb_values.specs.Heads.{holds_resources}
use Rattle.palm_device.specs.Records.{is_new, place_of_id, put_record, with_records}
use Rattle.handheld_store.specs.Ids.{IsTakenOrFree}

-- a record of this id can be written: the database holds records, and a new one has room and a free
-- id
pub record Takes (id : ℕ) (database : DatabaseValue) : Type 0 where
  pub records : holds_resources database.head.attributes ≡ false
  pub room : place_of_id id database.records ≡ None → length database.records < 65535
  pub free : IsTakenOrFree id database.records

-- so many bytes can be a record's, the database holds records, and there is room for a record of
-- this id where it is a new one
abbrev pub HasRoomFor : ℕ → ℕ → DatabaseValue → Type 0
HasRoomFor count id database = (count ≤ 65500) × (holds_resources database.head.attributes ≡ false)
    × (is_new id database.records ≡ true → length database.records < 65535)

-- the database once it is written
abbrev pub with_record : ℕ → ContentValue → DatabaseValue → DatabaseValue
with_record id content database = with_records (put_record id content database.records) database
