-- What acts do at a device where they can be done: the rows of the table.
use Rattle.std.proofs.Common.{◌≡◌, refl, ℕ, ◌+◌, true}
use Rattle.std.specs.Prelude.{Some, None, Ok, Err, slice_get}
use Rattle.pdb_values.specs.Databases.{DatabaseValue}
use Rattle.pdb_values.specs.declared.record.Record.{Record}
use Rattle.dlp_replies.specs.ReplyValues as reply
use Rattle.dlp_replies.specs.ReplyValues.{ReplyValue}
use Rattle.palm_device.specs.Blocks.{entry_count}
use Rattle.palm_device.specs.Devices.{Device, with_database, with_handles}
use Rattle.palm_device.specs.Handles.{Base, base_at, is_writable, opened_at, with_handle}
use Rattle.palm_device.specs.Records.{next_changed}
use Rattle.palm_device.specs.declared.opened.Opened.{Opened}
use Rattle.dlp_commands.specs.DatabaseFunctions.{close_db}
use Rattle.dlp_commands.specs.DeviceSteps.{tried}
use Rattle.dlp_commands.specs.Holding.{on_records}
use Rattle.dlp_commands.specs.Reached.{read_next_modified_rec, with_index, writes}
use Rattle.dlp_commands.specs.Readings.{whole}
use Rattle.dlp_commands.specs.Writings.{WritingValue, written_in}
use Rattle.desktop_session.specs.Requests.{closing, counting, reading_next}

-- a function that writes
pub writes_row : (free : ℕ) (device : Device) (handle : ℕ) (asked : WritingValue) (base : Base) (changed : DatabaseValue) (answer : ReplyValue)
    → base_at device handle ≡ Some base → is_writable base ≡ true → written_in free asked base.database ≡ Ok (changed, answer)
    → writes free device handle asked ≡ Ok (with_database device changed, answer)
writes_row free device handle asked base changed answer is writable done = rw is (rw writable (rw done refl))

-- CloseDB of what is open
pub close_row : (device : Device) (handle : ℕ) (opened : Opened) → opened_at handle device.handles ≡ Some opened
    → tried 0 device (closing handle).asks ≡ Ok (with_handles device (with_handle handle None device.handles), reply.CloseDb)
unfolding tried close_db
close_row device handle opened is = rw is refl

-- ReadOpenDBInfo of what is open
pub count_row : (device : Device) (handle : ℕ) {base : Base} → base_at device handle ≡ Some base
    → tried 0 device (counting handle).asks ≡ Ok (device, reply.ReadOpenDbInfo (entry_count base.database))
unfolding tried
count_row device handle is = rw is refl

-- ReadNextModifiedRec: the first changed record from the record index on
pub next_row : (device : Device) {place : ℕ} (handle : ℕ) {base : Base} {item : Record} → base_at device handle ≡ Some base → on_records base.database ≡ true
    → next_changed base.opened.next base.database.records ≡ Some place → slice_get base.database.records place ≡ Some item
    → tried 0 device (reading_next handle).asks ≡ Ok (with_index device handle (place + 1), whole place item)
unfolding tried read_next_modified_rec
next_row device handle is records first found = rw is (rw records (rw first (rw found refl)))

-- and where none is left: not found
pub no_next_row : (device : Device) (handle : ℕ) {base : Base} → base_at device handle ≡ Some base → on_records base.database ≡ true
    → next_changed base.opened.next base.database.records ≡ None → tried 0 device (reading_next handle).asks ≡ Err 5
unfolding tried read_next_modified_rec
no_next_row device handle is records none = rw is (rw records (rw none refl))
