-- The functions on databases and handles: the table, with the errors in its order (pilot-link,
-- `pi-dlp.h`).
use Rattle.std.specs.Prelude.{ℕ, ◌+◌, List, [], ◌∷◌, length, Some, None, Result, Ok, is_none, slice_get, nat_lt, ◌==◌, ◌&&◌, not, if◌then◌else◌}
use Rattle.pdb_values.specs.NamedDatabases.{database_of, with_new, without_named}
use Rattle.pdb_values.specs.Names.{name_fault}
use Rattle.pdb_values.specs.declared.head.DbHead.{DbHead}
use Rattle.dlp_replies.specs.ReplyValues as reply
use Rattle.palm_device.specs.Blocks.{empty_database}
use Rattle.palm_device.specs.Devices.{Device, most_databases, with_handles}
use Rattle.palm_device.specs.Handles.{is_open, free_handle, opened_at, with_handle, just_opened}
use Rattle.palm_device.specs.Heads.{has_bit, is_read_only, new_head}
use Rattle.dlp_commands.specs.Errors.{parameter, not_found, none_open, already_open, too_many_open, exists, read_only, limit, ◌>>=◌, check, need}
use Rattle.dlp_commands.specs.Reached.{Trial}

-- ReadDBList, OpenDB, CreateDB, DeleteDB: another card than 0: parameter
abbrev pub on_card : ℕ → Result (Unit {0}) ℕ
on_card card = check parameter (card == 0)

-- OpenDB, CreateDB, DeleteDB: then a name that is none of a database: parameter
abbrev pub named : ℕ → List ℕ → Result (Unit {0}) ℕ
named card name = on_card card >>= λ right. check parameter (is_none (name_fault name))

-- flag 0x80 stands exactly where a further database follows
abbrev pub more_flag : ℕ → ℕ → ℕ
more_flag index count = if nat_lt (index + 1) count then 0x80 else 0

-- an entry of the list has no seed
abbrev pub listed : DbHead → DbHead
listed head = record head { seed = 0 }

-- ReadDBList: flag 0x80 isn't set or no database has this index: not found. Replies the one of this
-- index
unfoldable pub read_db_list : Device → ℕ → ℕ → ℕ → Trial
read_db_list device flags card start = do
  right ← on_card card
  asked ← check not_found (has_bit 0x80 flags)
  database ← need not_found (slice_get device.databases start)
  Ok (
    device,
    reply.ReadDbList start (more_flag start (length device.databases))
        ((start, listed database.head) ∷ []),
  )

-- OpenDB: no such database: not found; it is open: already open; eight are open: too many open; for
-- writing and read-only:
-- read-only. Opens it under the least free handle
unfoldable pub open_db : Device → ℕ → ℕ → List ℕ → Trial
open_db device card mode name = do
  right ← named card name
  database ← need not_found (database_of name device.databases)
  closed ← check already_open (not (is_open name device.handles))
  handle ← need too_many_open (free_handle device.handles)
  allowed ← check read_only (not (has_bit 0x40 mode && is_read_only database.head.attributes))
  Ok (
    with_handles device
        (with_handle handle (Some (just_opened name mode)) device.handles),
    reply.OpenDb handle,
  )

-- CreateDB: there is one: exists; eight are open: too many open; 200 databases: limit. Makes an
-- empty one in its place by name,
-- and opens it with mode 0xC0
unfoldable pub create_db : Device → List ℕ → List ℕ → ℕ → ℕ → ℕ → List ℕ → Trial
create_db device creator kind card flags version name = do
  right ← named card name
  new ← check exists (is_none (database_of name device.databases))
  handle ← need too_many_open (free_handle device.handles)
  room ← check limit (nat_lt (length device.databases) most_databases)
  Ok (
    record device {
      databases = with_new
          (empty_database (new_head name kind creator flags version)) device.databases;
      handles = with_handle handle (Some (just_opened name 0xC0)) device.handles;
    },
    reply.CreateDb handle,
  )

-- CloseDB: the handle isn't open: none open. Closes it
unfoldable pub close_db : Device → ℕ → Trial
close_db device handle = do
  opened ← need none_open (opened_at handle device.handles)
  Ok (with_handles device (with_handle handle None device.handles), reply.CloseDb)

-- DeleteDB: no such database: not found; it is open: already open. Removes it
unfoldable pub delete_db : Device → ℕ → List ℕ → Trial
delete_db device card name = do
  right ← named card name
  database ← need not_found (database_of name device.databases)
  closed ← check already_open (not (is_open name device.handles))
  Ok (record device { databases = without_named name device.databases }, reply.DeleteDb)
