-- What one request does to a device: the reply and the device after (pilot-link, `pi-dlp.h`,
-- `dlp.c`).
use Rattle.std.specs.Prelude.{◌≡◌, ℕ, List, [], ◌∷◌, Result, Ok, Err, IfSome}
use Rattle.dlp_requests.specs.declared.fault.RequestFault.{RequestFault}
use Rattle.dlp_args.specs.Fields.{Fields, FieldsFit}
use Rattle.dlp_requests.specs.Forms as form
use Rattle.dlp_requests.specs.Forms.{Form, kinds_of, number_of}
use Rattle.dlp_requests.specs.RequestValues.{RequestValue}
use Rattle.dlp_requests.specs.RequestReading.{request_at}
use Rattle.dlp_replies.specs.ReplyReading.{reply_at}
use Rattle.dlp_replies.specs.ReplyValues.{Refused, ReplyValue}
use Rattle.dlp_replies.specs.Frames.{IsReply, reply_text}
use Rattle.palm_device.specs.Devices.{Device}
use Rattle.palm_device.specs.Handles.{base_at}
use Rattle.palm_device.specs.Records.{IsFree}
use Rattle.dlp_commands.specs.Errors.{fault_code}
use Rattle.dlp_commands.specs.DatabaseFunctions as databases
use Rattle.dlp_commands.specs.Reached.{Trial, read_next_modified_rec, reads, reset_record_index, writes}
use Rattle.dlp_commands.specs.UserFunctions as users
use Rattle.dlp_commands.specs.Writings as writing
use Rattle.dlp_commands.specs.declared.reading.Reading.TheVariants as reading

-- what a request of a form does; `free` is the id that a new record gets
abbrev pub tried_by : ℕ → Device → (f : Form) → Fields (kinds_of f) → Trial
tried_by free device form.ReadUserInfo none = users.read_user_info device
tried_by free device form.WriteUserInfo
    (user, (viewer, (pc, (date, (bits, (name_len, (name, end))))))) =
    users.write_user_info device user viewer pc date bits name_len name
tried_by free device form.ReadSysInfo none = users.read_sys_info device
tried_by free device form.ReadSysInfoFor (major, (minor, end)) = users.read_sys_info device
tried_by free device form.ReadDbList (flags, (card, (start, end))) =
    databases.read_db_list device flags card start
tried_by free device form.OpenDb (card, (mode, (name, end))) =
    databases.open_db device card mode name
tried_by free device form.CreateDb
    (creator, (kind, (card, (pad, (flags, (version, (name, end))))))) =
    databases.create_db device creator kind card flags version name
tried_by free device form.CloseDb (handle, end) = databases.close_db device handle
tried_by free device form.DeleteDb (card, (pad, (name, end))) = databases.delete_db device card name
tried_by free device form.ReadAppBlock (handle, (pad, (offset, (count, end)))) =
    reads device handle (reading.AppBlock offset count)
tried_by free device form.ReadSortBlock (handle, (pad, (offset, (count, end)))) =
    reads device handle (reading.SortBlock offset count)
tried_by free device form.WriteAppBlock (handle, (pad, (bytes, end))) =
    writes free device handle (writing.AppBlock bytes)
tried_by free device form.WriteSortBlock (handle, (pad, (bytes, end))) =
    writes free device handle (writing.SortBlock bytes)
tried_by free device form.ReadNextModifiedRec (handle, end) = read_next_modified_rec device handle
tried_by free device form.ReadRecordById (handle, (pad, (id, (offset, (count, end))))) =
    reads device handle (reading.RecordOfId id offset count)
tried_by free device form.ReadRecordByIndex (handle, (pad, (index, (offset, (count, end))))) =
    reads device handle (reading.RecordAt index offset count)
tried_by free device form.WriteRecord
    (handle, (flags, (id, (attributes, (category, (bytes, end)))))) =
    writes free device handle (writing.WriteRecord id attributes category bytes)
tried_by free device form.DeleteRecord (handle, (flags, (id, end))) =
    writes free device handle (writing.DeleteRecord flags id)
tried_by free device form.ReadResourceByIndex (handle, (pad, (index, (offset, (count, end))))) =
    reads device handle (reading.ResourceAt index offset count)
tried_by free device form.ReadResourceByType (handle, (pad, (kind, (id, (offset, (count, end)))))) =
    reads device handle (reading.ResourceOfType (record { 0 = kind }) id offset count)
tried_by free device form.WriteResource (handle, (pad, (kind, (id, (bytes, end))))) =
    writes free device handle (writing.WriteResource kind id bytes)
tried_by free device form.DeleteResource (handle, (flags, (kind, (id, end)))) =
    writes free device handle (writing.DeleteResource flags kind id)
tried_by free device form.CleanUpDatabase (handle, end) = writes free device handle writing.CleanUp
tried_by free device form.ResetSyncFlags (handle, end) =
    writes free device handle writing.ResetFlags
tried_by free device form.ResetRecordIndex (handle, end) = reset_record_index device handle
tried_by free device form.AddSyncLogEntry (text, end) = users.add_sync_log_entry device
tried_by free device form.ReadOpenDbInfo (handle, end) = reads device handle reading.EntryCount
tried_by free device form.MoveCategory (handle, (from, (to, (pad, end)))) =
    writes free device handle (writing.MoveCategory from to)
tried_by free device form.OpenConduit none = users.open_conduit device
tried_by free device form.EndOfSync (status, end) = users.end_of_sync device
tried_by free device form.ReadRecordIdList (handle, (flags, (start, (maximum, end)))) =
    reads device handle (reading.RecordIds start maximum)

-- what a request does
unfoldable pub tried : ℕ → Device → RequestValue → Trial
tried free device value = tried_by free device value.form value.fields

-- the function's byte of a request
abbrev pub function_number : RequestValue → ℕ
function_number value = number_of value.form

-- an error is replied and changes nothing
abbrev pub refusal : Device → ℕ → ℕ → List ℕ × Device
refusal old number code = (reply_text (Refused number code), old)

-- what was done is replied, or the error
abbrev pub outcome : Device → ℕ → Trial → List ℕ × Device
outcome old number (Ok done) = (reply_text done.1, done.0)
outcome old number (Err code) = refusal old number code

-- the first byte of a message, or 0 of one that has none
abbrev pub first_byte : List ℕ → ℕ
first_byte [] = 0
first_byte (byte ∷ bytes) = byte

-- a request does what it does; bytes that are none are refused under their first byte
abbrev pub served_by : Device → ℕ → List ℕ → Result RequestValue RequestFault → List ℕ × Device
served_by old free bytes (Ok value) = outcome old (function_number value) (tried free old value)
served_by old free bytes (Err fault) = refusal old (first_byte bytes) (fault_code fault)

-- bytes that are the text of a reply, and are read as this reply to the function of a request's
-- bytes
abbrev pub IsReplyTo : List ℕ → List ℕ → Type 0
IsReplyTo bytes reply =
    (value : ReplyValue) × IsReply value × (reply ≡ reply_text value)
    × (reply_at (first_byte bytes) reply ≡ Ok value)

-- the reply to bytes and the device after; `free` is the id that a new record gets
unfoldable pub served : Device → ℕ → List ℕ → List ℕ × Device
served old free bytes = served_by old free bytes (request_at bytes)

-- the fields of a request keep the bounds of its layout
abbrev pub RequestFits : RequestValue → Type 0
RequestFits value = FieldsFit (kinds_of value.form) value.fields

-- the request may give a new record this id: WriteRecord of id 0 asks for a free one
abbrev pub FormMayGive : Device → ℕ → (f : Form) → Fields (kinds_of f) → Type 0
FormMayGive old free form.WriteRecord (handle, (flags, (id, more))) =
    IfSome (base_at old handle) (λ base. id ≡ 0 → IsFree free base.database.records)
FormMayGive old free other fields = Unit {0}

-- a request that was read may do so; bytes that are none give no id
abbrev pub MayGiveTo : Device → ℕ → Result RequestValue RequestFault → Type 0
MayGiveTo old free (Ok value) = FormMayGive old free value.form value.fields
MayGiveTo old free (Err fault) = Unit {0}

-- the bytes may give a new record this id
unfoldable pub MayGive : Device → List ℕ → ℕ → Type 0
MayGive old bytes free = MayGiveTo old free (request_at bytes)

-- one step of a device by the bytes of a request: a new record gets any free id, all else is
-- determined
pub record DeviceStep (old : Device) (bytes reply : List ℕ) (new : Device) : Type 0 where
  pub free : ℕ
  pub may : MayGive old bytes free
  pub is : served old free bytes ≡ (reply, new)
