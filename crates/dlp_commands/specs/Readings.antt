-- The functions that read the database of a handle: the table, with the errors in its order
-- (pilot-link, `pi-dlp.h`).
use Rattle.std.specs.Prelude.{ℕ, ◌+◌, Bool, List, Option, min, take, drop, length, slice_get, Result, Ok, nat_le, ◌==◌, ◌&&◌, not, if◌then◌else◌}
use Rattle.pdb_values.specs.Databases.{DatabaseValue}
use Rattle.pdb_values.specs.declared.record.Record.{Record}
use Rattle.dlp_replies.specs.ReplyValues as reply
use Rattle.dlp_replies.specs.ReplyValues.{ReplyValue}
use Rattle.palm_device.specs.Blocks.{entry_count}
use Rattle.palm_device.specs.Records.{next_changed, place_of_id}
use Rattle.palm_device.specs.Resources.{place_of_resource}
use Rattle.palm_device.specs.Soundness.{ids_of}
use Rattle.dlp_commands.specs.Errors.{not_found, not_supported, parameter, ◌>>=◌, check, need}
use Rattle.dlp_commands.specs.Holding.{fits, on_records}
use Rattle.dlp_commands.specs.declared.holds.Holds.{Holds}
use Rattle.dlp_commands.specs.declared.holds.Holds.TheVariants as holds
use Rattle.dlp_commands.specs.declared.reading.Reading.{Reading}
use Rattle.dlp_commands.specs.declared.reading.Reading.TheVariants as reading

-- ---- parts

-- the bytes of a block from an offset on, at most so many: no block: not found; the offset is past
-- its end: parameter
abbrev pub block_part : Option (List ℕ) → ℕ → ℕ → Result (List ℕ) ℕ
block_part block offset count = do
  bytes ← need not_found block
  within ← check parameter (nat_le offset (length bytes))
  Ok (take count (drop offset bytes))

-- a bit that stands where a test holds
abbrev pub bit_if : ℕ → Bool → ℕ
bit_if bit holds = if holds then bit else 0

-- a deleted record that still has bytes waits for the archive
abbrev pub is_archived : Record → Bool
is_archived item = item.deleted && not (length item.content.bytes == 0)

-- the attributes of a record on the wire: deleted 0x80, dirty 0x40, busy 0x20, secret 0x10,
-- archived 0x08
abbrev pub wire_attributes : Record → ℕ
wire_attributes item =
    bit_if 0x80 item.deleted + bit_if 0x40 item.dirty + bit_if 0x20 item.busy
    + bit_if 0x10 item.content.secret + bit_if 0x08
    (is_archived item)

-- a record's bytes from an offset on, at most so many: no record at the index: not found; the
-- offset is past its end: parameter.
-- The size is the whole one
abbrev pub record_part : DatabaseValue → ℕ → ℕ → ℕ → Result ReplyValue ℕ
record_part database index offset count = do
  item ← need not_found (slice_get database.records index)
  within ← check parameter (nat_le offset (length item.content.bytes))
  Ok (reply.ReadRecord item.id index (length item.content.bytes)
      (wire_attributes item) item.content.category
      (take count (drop offset item.content.bytes)))

-- a resource's bytes likewise
abbrev pub resource_part : DatabaseValue → ℕ → ℕ → ℕ → Result ReplyValue ℕ
resource_part database index offset count = do
  resource ← need not_found (slice_get database.resources index)
  within ← check parameter (nat_le offset (length resource.bytes))
  Ok (reply.ReadResource resource.kind.0 resource.id index (length resource.bytes)
      (take count (drop offset resource.bytes)))

-- the most ids in one reply
abbrev pub most_ids : ℕ
most_ids = 16000

-- ---- the functions

-- what the database has to hold
abbrev pub read_on : Reading → Holds
read_on (reading.AppBlock offset count) = holds.Either
read_on (reading.SortBlock offset count) = holds.Either
read_on reading.EntryCount = holds.Either
read_on (reading.RecordOfId id offset count) = holds.Records
read_on (reading.RecordAt index offset count) = holds.Records
read_on (reading.RecordIds start maximum) = holds.Records
read_on (reading.ResourceOfType kind id offset count) = holds.Resources
read_on (reading.ResourceAt index offset count) = holds.Resources

-- The reply, or the error, where the database holds it: a part of a block, the number of entries,
-- deleted ones included, a part
-- of the record of an id (no record has an id above 16,777,215) or at an index, at most so many ids
-- from an index on and at most
-- 16,000, a part of the first resource of a type and id or of that at an index.
abbrev pub read_of : Reading → DatabaseValue → Result ReplyValue ℕ
read_of (reading.AppBlock offset count) database =
    block_part database.app offset count >>= λ bytes. Ok (reply.ReadAppBlock bytes)
read_of (reading.SortBlock offset count) database =
    block_part database.sort offset count >>= λ bytes. Ok (reply.ReadSortBlock bytes)
read_of reading.EntryCount database = Ok (reply.ReadOpenDbInfo (entry_count database))
read_of (reading.RecordOfId id offset count) database =
    need not_found (place_of_id id database.records)
    >>= λ index. record_part database index offset count
read_of (reading.RecordAt index offset count) database = record_part database index offset count
read_of (reading.RecordIds start maximum) database =
    Ok (reply.ReadRecordIdList (take (min maximum most_ids) (drop start (ids_of database.records))))
read_of (reading.ResourceOfType kind id offset count) database =
    need not_found (place_of_resource kind.0 id database.resources)
    >>= λ index. resource_part database index offset count
read_of (reading.ResourceAt index offset count) database = resource_part database index offset count

-- the same of any database: one that doesn't hold it: not supported
abbrev pub read_in : Reading → DatabaseValue → Result ReplyValue ℕ
read_in asked database =
    check not_supported (fits (read_on asked) database) >>= λ suited. read_of asked database

-- ---- the next changed record

-- the reply with a whole record
abbrev pub whole : ℕ → Record → ReplyValue
whole place item =
    reply.ReadNextModifiedRec item.id place (length item.content.bytes)
    (wire_attributes item) item.content.category item.content.bytes

-- the first record from a record index on that is dirty or deleted, whole, with its place: no
-- records: not supported; none: not found
abbrev pub next_in : ℕ → DatabaseValue → Result (ℕ × ReplyValue) ℕ
next_in next database = do
  suited ← check not_supported (on_records database)
  place ← need not_found (next_changed next database.records)
  item ← need not_found (slice_get database.records place)
  Ok (place, whole place item)
