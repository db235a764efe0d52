-- What becomes of a database where a handheld's store is opened (Palm File Format Specification,
-- attributes and ids of record entries).
use Rattle.std.specs.Prelude.{ℕ, Bool, true, false, not, ◌&&◌, ◌==◌, List, [], ◌∷◌, map}
use Rattle.std.specs.List.{list_all}
use Rattle.pdb_values.specs.Databases.{DatabaseValue}
use Rattle.pdb_values.specs.declared.record.Record.{Record}
use Rattle.palm_device.specs.FreshIds.{is_among, with_fresh_ids}
use Rattle.palm_device.specs.Records.{with_records}

-- no application is at work on the record
abbrev pub idle : Record → Record
idle item = record item { busy = false }

-- the record under this id, with no application at work on it
abbrev pub settled : ℕ → Record → Record
settled id item = record item { id = id; busy = false }

-- The database of a file as a store opens it: an id of its own for each record, and no busy bit.
unfoldable pub as_opened : DatabaseValue → DatabaseValue
as_opened database = with_records (map idle (with_fresh_ids database.records)) database

-- none of the ids is 0, and none stands once more behind itself
abbrev pub are_ids : List ℕ → Bool
are_ids [] = true
are_ids (id ∷ ids) = not (id == 0) && (not (is_among id ids) && are_ids ids)

-- Records that opening a store once more would leave as they are: ids that differ, none of them 0,
-- and no busy bit.
abbrev pub are_settled : List Record → Bool
are_settled records =
    list_all (λ item. not item.busy) records && are_ids (map (λ item. item.id) records)
