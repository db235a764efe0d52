-- Records of a database by id and category, and what becomes of them (pilot-link, `pi-dlp.h`).
use Rattle.std.specs.Prelude.{◌≡◌, ℕ, ◌+◌, ◌≤◌, ◌<◌, Bool, true, false, not, ◌||◌, ◌&&◌, List, map, filter, drop, position, find, Option, None, is_none, ◌==◌}
use Rattle.std.specs.Prelude.{if◌then◌else◌}
use Rattle.std.specs.Option.{option_map}
use Rattle.pdb_values.specs.Bounds.{greatest_id}
use Rattle.pdb_values.specs.Contents.{ContentValue}
use Rattle.pdb_values.specs.Databases.{DatabaseValue}
use Rattle.pdb_values.specs.Records.{is_live}
use Rattle.pdb_values.specs.declared.record.Record.{Record}
use Rattle.palm_device.specs.Entries.{put_entry, without_entry}

-- a record has this id
abbrev pub has_id : ℕ → Record → Bool
has_id id item = item.id == id

-- where the record of an id stands
abbrev pub place_of_id : ℕ → List Record → Option ℕ
place_of_id id records = position (has_id id) records

-- the record of an id
abbrev pub record_of : ℕ → List Record → Option Record
record_of id records = find (has_id id) records

-- an id from 1 to 16,777,215 that no record has, deleted ones included
pub record IsFree (id : ℕ) (records : List Record) : Type 0 where
  pub some : 0 < id
  pub bound : id ≤ greatest_id
  pub none : place_of_id id records ≡ None

-- a record is in this category
abbrev pub is_in : ℕ → Record → Bool
is_in category item = item.content.category == category

-- a record changed since the last HotSync, or was deleted
abbrev pub is_changed : Record → Bool
is_changed item = item.deleted || item.dirty

-- where the first changed record from an index on stands
abbrev pub next_changed : ℕ → List Record → Option ℕ
next_changed index records =
    option_map (λ place. index + place) (position is_changed (drop index records))

-- an id asks for a new record where it is 0 or no record has it
abbrev pub is_new : ℕ → List Record → Bool
is_new id records = (id == 0) || is_none (place_of_id id records)

-- a new record of id 0 gets a free id
abbrev pub given_id : ℕ → ℕ → ℕ
given_id free id = if id == 0 then free else id

-- a record with another content is live and dirty
abbrev pub rewritten : ContentValue → Record → Record
rewritten content item = record item { deleted = false; dirty = true; content = content }

-- a new record, live and dirty
abbrev pub new_record : ℕ → ContentValue → Record
new_record id content = record {
  id = id;
  deleted = false;
  dirty = true;
  busy = false;
  content = content;
}

-- the record of an id gets this content in its place; where there is none, a new last one does
abbrev pub put_record : ℕ → ContentValue → List Record → List Record
put_record id content records =
    put_entry (has_id id) (rewritten content) (new_record id content) records

-- the record of an id is gone
abbrev pub without_record : ℕ → List Record → List Record
without_record id records = without_entry (has_id id) records

-- all records of a category are gone
abbrev pub without_category : ℕ → List Record → List Record
without_category category records = filter (λ item. not (is_in category item)) records

-- every record that was deleted is gone
abbrev pub cleaned_up : List Record → List Record
cleaned_up records = filter is_live records

-- a record counts as unchanged
abbrev pub clean : Record → Record
clean item = record item { dirty = false }

-- every record counts as unchanged
abbrev pub reset_flags : List Record → List Record
reset_flags records = map clean records

-- a record of the first category goes to the second and becomes dirty
abbrev pub moved : ℕ → ℕ → Record → Record
moved from to item =
    if is_in from item
    then record item { dirty = true; content = record item.content { category = to } } else item

-- a record stays as it is where one category goes to another
abbrev pub stays_in : ℕ → ℕ → Record → Bool
stays_in from to item = not (is_in from item) || (item.dirty && (from == to))

-- every record of the first category goes to the second
abbrev pub move_category : ℕ → ℕ → List Record → List Record
move_category from to records = map (moved from to) records

-- a database with other records
abbrev pub with_records : List Record → DatabaseValue → DatabaseValue
with_records records database = record database { records = records }
