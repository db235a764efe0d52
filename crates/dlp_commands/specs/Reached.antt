-- The functions with a handle: the table, with the errors in its order (pilot-link, `pi-dlp.h`).
-- First the handle is open; then, for
-- functions that write, its mode is for writing and its database isn't read-only; then come the
-- tests of the database.
use Rattle.std.specs.Prelude.{ℕ, ◌+◌, Result, Ok}
use Rattle.std.specs.Option.{option_map}
use Rattle.dlp_replies.specs.ReplyValues as reply
use Rattle.dlp_replies.specs.ReplyValues.{ReplyValue}
use Rattle.palm_device.specs.declared.opened.Opened.{Opened}
use Rattle.palm_device.specs.Devices.{Device, with_database, with_handles}
use Rattle.palm_device.specs.Handles.{base_at, is_writable, opened_at, with_handle}
use Rattle.dlp_commands.specs.Errors.{none_open, not_supported, read_only, ◌>>=◌, check, need}
use Rattle.dlp_commands.specs.Holding.{on_records}
use Rattle.dlp_commands.specs.Readings.{next_in, read_in}
use Rattle.dlp_commands.specs.Writings.{WritingValue, written_in}
use Rattle.dlp_commands.specs.declared.reading.Reading.{Reading}

-- an error, or the device after the request and the reply
abbrev pub Trial : Type 0
Trial = Result (Device × ReplyValue) ℕ

-- a function that reads gives a reply and changes nothing
abbrev pub reads : Device → ℕ → Reading → Trial
reads device handle asked = do
  base ← need none_open (base_at device handle)
  reply ← read_in asked base.database
  Ok (device, reply)

-- a function that writes gives the database that its handle leads to another value, and a reply;
-- `free` is the id that a new record gets
abbrev pub writes : ℕ → Device → ℕ → WritingValue → Trial
writes free device handle asked = do
  base ← need none_open (base_at device handle)
  allowed ← check read_only (is_writable base)
  changed ← written_in free asked base.database
  Ok (with_database device changed.0, changed.1)

-- what is open, with another record index
abbrev pub with_next : ℕ → Opened → Opened
with_next next opened = record opened { next = next }

-- another record index under a handle
abbrev pub with_index : Device → ℕ → ℕ → Device
with_index device handle next =
    with_handles device
    (with_handle handle
    (option_map (with_next next) (opened_at handle device.handles)) device.handles)

-- the first changed record from the handle's record index on, with its place
abbrev pub next_of : Device → ℕ → Result (ℕ × ReplyValue) ℕ
next_of device handle = do
  base ← need none_open (base_at device handle)
  next_in base.opened.next base.database

-- ReadNextModifiedRec replies it, whole, and sets the record index behind it
unfoldable pub read_next_modified_rec : Device → ℕ → Trial
read_next_modified_rec device handle =
    next_of device handle >>= λ found. Ok (with_index device handle (found.0 + 1), found.1)

-- ResetRecordIndex: the handle's record index is 0
unfoldable pub reset_record_index : Device → ℕ → Trial
reset_record_index device handle = do
  base ← need none_open (base_at device handle)
  suited ← check not_supported (on_records base.database)
  Ok (with_index device handle 0, reply.ResetRecordIndex)
