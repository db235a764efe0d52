-- The functions that write into the database of a handle: the table, with the errors in its order
-- (pilot-link, `pi-dlp.h`), and
-- the edits that do it.
use Rattle.std.specs.Prelude.{◌≡◌, ◌≤◌, ℕ, ◌%◌, Bool, false, List, [], length, Result, Ok, Err, ◌&&◌, ◌||◌, not, nat_le, nat_lt, ◌==◌, if◌then◌else◌}
use Rattle.pdb_values.specs.Bounds.{greatest_id, most_bytes, most_entries}
use Rattle.pdb_values.specs.Databases.{DatabaseValue}
use Rattle.pdb_values.specs.declared.record.Record.{Record}
use Rattle.dlp_replies.specs.ReplyValues as reply
use Rattle.dlp_replies.specs.ReplyValues.{ReplyValue}
use Rattle.palm_device.specs.Blocks.{with_app, with_sort}
use Rattle.palm_device.specs.Edits.{edit_given, edited}
use Rattle.palm_device.specs.Heads.{has_bit}
use Rattle.palm_device.specs.Records as records
use Rattle.palm_device.specs.Records.{given_id, is_new, place_of_id, with_records}
use Rattle.palm_device.specs.Resources as resources
use Rattle.palm_device.specs.Resources.{has_room, place_of_resource, with_resources}
use Rattle.palm_device.specs.declared.edit.Edit.{Edit}
use Rattle.dlp_commands.specs.Errors.{limit, not_found, not_supported, parameter, ◌>>=◌, check, need}
use Rattle.dlp_commands.specs.Holding.{fits}
use Rattle.dlp_commands.specs.Refusals.{code_of}
use Rattle.dlp_commands.specs.declared.holds.Holds.{Holds}
use Rattle.dlp_commands.specs.declared.holds.Holds.TheVariants as holds
use Rattle.dlp_commands.specs.declared.refusal.Refusal.{Refusal}
use Rattle.dlp_commands.specs.declared.writing.Writing.{Writing}
use Rattle.dlp_commands.specs.declared.writing.Writing.TheVariants as writing

-- ---- what is asked

-- what a function writes, wherever its bytes lie
pub data WritingValue : Type 0 where
  AppBlock : (bytes : List ℕ) → WritingValue
  SortBlock : (bytes : List ℕ) → WritingValue
  WriteRecord : (id attributes category : ℕ) (bytes : List ℕ) → WritingValue
  DeleteRecord : (flags id : ℕ) → WritingValue
  CleanUp : WritingValue
  ResetFlags : WritingValue
  MoveCategory : (from to : ℕ) → WritingValue
  WriteResource : (kind : List ℕ) (id : ℕ) (bytes : List ℕ) → WritingValue
  DeleteResource : (flags : ℕ) (kind : List ℕ) (id : ℕ) → WritingValue

-- what a program is asked to write
abbrev pub writing_value : Writing → WritingValue
writing_value (writing.AppBlock bytes) = AppBlock bytes.now
writing_value (writing.SortBlock bytes) = SortBlock bytes.now
writing_value (writing.Record id attributes category bytes) =
    WriteRecord id attributes category bytes.now
writing_value (writing.DeleteRecord flags id) = DeleteRecord flags id
writing_value writing.CleanUp = CleanUp
writing_value writing.ResetFlags = ResetFlags
writing_value (writing.MoveCategory from to) = MoveCategory from to
writing_value (writing.Resource kind id bytes) = WriteResource kind.0 id bytes.now
writing_value (writing.DeleteResource flags kind id) = DeleteResource flags kind.0 id

-- what the database has to hold
abbrev pub written_on : WritingValue → Holds
written_on (AppBlock bytes) = holds.Either
written_on (SortBlock bytes) = holds.Either
written_on (WriteRecord id attributes category bytes) = holds.Records
written_on (DeleteRecord flags id) = holds.Records
written_on CleanUp = holds.Records
written_on ResetFlags = holds.Records
written_on (MoveCategory from to) = holds.Records
written_on (WriteResource kind id bytes) = holds.Resources
written_on (DeleteResource flags kind id) = holds.Resources

-- the data that is written is at most 65,500 bytes
abbrev pub IsShortWriting : WritingValue → Type 0
IsShortWriting (AppBlock bytes) = length bytes ≤ most_bytes
IsShortWriting (SortBlock bytes) = length bytes ≤ most_bytes
IsShortWriting (WriteRecord id attributes category bytes) = length bytes ≤ most_bytes
IsShortWriting (WriteResource kind id bytes) = length bytes ≤ most_bytes
IsShortWriting other = Unit {0}

-- a free id is asked for
abbrev pub asks_free : WritingValue → Bool
asks_free (WriteRecord id attributes category bytes) = id == 0
asks_free other = false

-- ---- the functions

-- an id above 16,777,215 or a category above 15: parameter; a new one and 65,535 records: limit
abbrev pub may_write : ℕ → ℕ → List Record → Result (Unit {0}) ℕ
may_write id category items = do
  bounded ← check parameter (nat_le id greatest_id)
  sorted ← check parameter (nat_le category 15)
  check limit (not (is_new id items) || nat_lt (length items) most_entries)

-- the record of this id, or a new last one, gets this content, live and dirty
abbrev pub written_record : ℕ → ℕ → Bool → ℕ → List ℕ → DatabaseValue
    → Result (DatabaseValue × ReplyValue) ℕ
written_record free id secret category bytes database = do
  allowed ← may_write id category database.records
  Ok (
    with_records
        (records.put_record (given_id free id)
        (record { category = category; secret = secret; bytes = bytes }) database.records)
        database,
    reply.WriteRecord (given_id free id),
  )

-- all records of a category are gone; a category above 15: parameter
abbrev pub without_category : ℕ → DatabaseValue → Result DatabaseValue ℕ
without_category category database = check parameter (nat_le category 15)
    >>= λ sorted. Ok (with_records (records.without_category category database.records) database)

-- the record of an id is gone; none: not found
abbrev pub without_record : ℕ → DatabaseValue → Result DatabaseValue ℕ
without_record id database = need not_found (place_of_id id database.records)
    >>= λ place. Ok (with_records (records.without_record id database.records) database)

-- flag 0x80: all records are gone; flag 0x40: those of the category that is the id's low byte; else
-- the record
abbrev pub without_records : ℕ → ℕ → DatabaseValue → Result DatabaseValue ℕ
without_records flags id database =
    if has_bit 0x80 flags then Ok (with_records [] database) else if has_bit 0x40 flags
    then without_category (id % 256) database else without_record
    id database

-- every record of a category gets another and becomes dirty; a category above 15: parameter
abbrev pub with_moved : ℕ → ℕ → DatabaseValue → Result DatabaseValue ℕ
with_moved from to database = check parameter (nat_le from 15 && nat_le to 15)
    >>= λ sorted. Ok (with_records (records.move_category from to database.records) database)

-- a new one and 65,535 resources: limit. The first resource of this type and id, or a new last one,
-- gets these bytes
abbrev pub with_resource : List ℕ → ℕ → List ℕ → DatabaseValue → Result DatabaseValue ℕ
with_resource kind id bytes database = check limit (has_room kind id database.resources)
    >>= λ room. Ok
    (with_resources (resources.put_resource kind id bytes database.resources) database)

-- flag 0x80: all resources are gone; else the first of this type and id; none: not found
abbrev pub without_resources : ℕ → List ℕ → ℕ → DatabaseValue → Result DatabaseValue ℕ
without_resources flags kind id database =
    if has_bit 0x80 flags then Ok (with_resources [] database)
    else (need not_found (place_of_resource kind id database.resources)
    >>= λ place. Ok
    (with_resources (resources.without_resource kind id database.resources) database))

-- The database after and the reply, or the error, where the database holds it; `free` is the id
-- that a new record of id 0 gets.
-- No bytes remove a block; of a written record's attributes only 0x10 is looked at; cleaning up
-- takes every record with the delete
-- bit, and resetting flags clears every dirty bit.
abbrev pub written : ℕ → WritingValue → DatabaseValue → Result (DatabaseValue × ReplyValue) ℕ
written free (AppBlock bytes) database = Ok (with_app bytes database, reply.WriteAppBlock)
written free (SortBlock bytes) database = Ok (with_sort bytes database, reply.WriteSortBlock)
written free (WriteRecord id attributes category bytes) database =
    written_record free id (has_bit 0x10 attributes) category bytes database
written free (DeleteRecord flags id) database =
    without_records flags id database >>= λ left. Ok (left, reply.DeleteRecord)
written free CleanUp database =
    Ok (with_records (records.cleaned_up database.records) database, reply.CleanUpDatabase)
written free ResetFlags database =
    Ok (with_records (records.reset_flags database.records) database, reply.ResetSyncFlags)
written free (MoveCategory from to) database =
    with_moved from to database >>= λ moved. Ok (moved, reply.MoveCategory)
written free (WriteResource kind id bytes) database =
    with_resource kind id bytes database >>= λ put. Ok (put, reply.WriteResource)
written free (DeleteResource flags kind id) database =
    without_resources flags kind id database >>= λ left. Ok (left, reply.DeleteResource)

-- the same of any database: one that doesn't hold it: not supported
abbrev pub written_in : ℕ → WritingValue → DatabaseValue → Result (DatabaseValue × ReplyValue) ℕ
written_in free asked database =
    check not_supported (fits (written_on asked) database) >>= λ suited. written free asked database

-- ---- edits

-- the reply to a writing that was done; a written record has the given id
abbrev pub write_reply : ℕ → WritingValue → ReplyValue
write_reply given (AppBlock bytes) = reply.WriteAppBlock
write_reply given (SortBlock bytes) = reply.WriteSortBlock
write_reply given (WriteRecord id attributes category bytes) = reply.WriteRecord given
write_reply given (DeleteRecord flags id) = reply.DeleteRecord
write_reply given CleanUp = reply.CleanUpDatabase
write_reply given ResetFlags = reply.ResetSyncFlags
write_reply given (MoveCategory from to) = reply.MoveCategory
write_reply given (WriteResource kind id bytes) = reply.WriteResource
write_reply given (DeleteResource flags kind id) = reply.DeleteResource

-- an edit does what a writing asks of a database that holds what is written, or the refusal is the
-- table's
abbrev pub PlansHeld : WritingValue → DatabaseValue → Result Edit Refusal → Type 0
PlansHeld asked database (Ok edit) = (free : ℕ)
    → written free asked database
    ≡ Ok (edited free edit database, write_reply (edit_given free edit) asked)
PlansHeld asked database (Err refusal) =
    (free : ℕ) → written free asked database ≡ Err (code_of refusal)

-- the same of any database
abbrev pub Plans : WritingValue → DatabaseValue → Result Edit Refusal → Type 0
Plans asked database (Ok edit) = (free : ℕ)
    → written_in free asked database
    ≡ Ok (edited free edit database, write_reply (edit_given free edit) asked)
Plans asked database (Err refusal) =
    (free : ℕ) → written_in free asked database ≡ Err (code_of refusal)
