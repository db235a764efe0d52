-- What an edit makes of a database (pilot-link, `pi-dlp.h`), and when it can be done.
use Rattle.std.specs.Prelude.{◌≡◌, ◌<◌, ◌≤◌, ℕ, Bool, true, false, [], filter, length, ◌==◌}
use Rattle.pdb_values.specs.Bounds.{most_bytes, most_entries}
use Rattle.pdb_values.specs.Databases.{DatabaseValue}
use Rattle.pdb_values.specs.Heads.{holds_resources}
use Rattle.palm_device.specs.Blocks.{with_app, with_sort}
use Rattle.palm_device.specs.Kept.{is_kept}
use Rattle.palm_device.specs.Records.{given_id, is_new, move_category, put_record, reset_flags, with_records, without_record}
use Rattle.palm_device.specs.Resources.{has_room, put_resource, with_resources, without_resource}
use Rattle.palm_device.specs.declared.edit.Edit.{Edit}
use Rattle.palm_device.specs.declared.edit.Edit.TheVariants as edit

-- the database after an edit; `free` is the id that a new record of id 0 gets
abbrev pub edited : ℕ → Edit → DatabaseValue → DatabaseValue
edited free (edit.AppBlock bytes) database = with_app bytes.now database
edited free (edit.SortBlock bytes) database = with_sort bytes.now database
edited free (edit.Record id category secret bytes) database =
    with_records
    (put_record (given_id free id)
    (record { category = category; secret = secret; bytes = bytes.now }) database.records) database
edited free edit.NoRecords database = with_records [] database
edited free (edit.Keep kept) database =
    with_records (filter (is_kept kept) database.records) database
edited free (edit.WithoutRecord id) database =
    with_records (without_record id database.records) database
edited free edit.ResetFlags database = with_records (reset_flags database.records) database
edited free (edit.MoveCategory from to) database =
    with_records (move_category from to database.records) database
edited free (edit.Resource kind id bytes) database =
    with_resources (put_resource kind.0 id bytes.now database.resources) database
edited free edit.NoResources database = with_resources [] database
edited free (edit.WithoutResource kind id) database =
    with_resources (without_resource kind.0 id database.resources) database

-- the id of the record that an edit writes, or 0 where it writes none
abbrev pub edit_given : ℕ → Edit → ℕ
edit_given free (edit.Record id category secret bytes) = given_id free id
edit_given free other = 0

-- an edit gives a new record a free id
abbrev pub gives_free : Edit → Bool
gives_free (edit.Record id category secret bytes) = id == 0
gives_free other = false

-- the edit can be done: its data is short, there is room for it, and the database holds what it
-- changes
abbrev pub IsFor : DatabaseValue → Edit → Type 0
IsFor database (edit.AppBlock bytes) = length bytes.now ≤ most_bytes
IsFor database (edit.SortBlock bytes) = length bytes.now ≤ most_bytes
IsFor database (edit.Record id category secret bytes) =
    (length bytes.now ≤ most_bytes) × (holds_resources database.head.attributes ≡ false)
    × (is_new id database.records ≡ true → length database.records < most_entries)
IsFor database (edit.Resource kind id bytes) =
    (length bytes.now ≤ most_bytes) × (holds_resources database.head.attributes ≡ true)
    × (has_room kind.0 id database.resources ≡ true)
IsFor database other = Unit {0}

-- an answer says whether a database is another one than before
pub record Tells (old new : DatabaseValue) (differs : Bool) : Type 0 where
  pub same : differs ≡ false → new ≡ old
  pub other : differs ≡ true → new ≡ old → ⊥
