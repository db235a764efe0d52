-- The texts that are written of replies (pilot-link, `dlp.c`: function, number of arguments, error,
-- arguments).
use Rattle.std.specs.Prelude.{◌<◌, ◌≤◌, ◌^◌, ℕ, ◌+◌, List, [], ◌∷◌, ◌++◌, length}
use Rattle.std.specs.List.{AllByRecursion}
use Rattle.std.specs.Int.{w16, to_be_bytes}
use Rattle.pdb_values.specs.Bounds.{most_bytes}
use Rattle.pdb_values.specs.PalmDates.{wire_date}
use Rattle.dlp_args.specs.Arguments.{arg_text}
use Rattle.dlp_args.specs.Cells.{CellKind, HasNoZero}
use Rattle.dlp_args.specs.Fields.{Fields, fields_text, FieldsFit}
use Rattle.dlp_replies.specs.EntryLists.{entries_text, IsEntry}
use Rattle.dlp_replies.specs.IdLists.{ids_text, IsId}
use Rattle.dlp_replies.specs.Layouts.{user_info, sys_info, db_list, handle_alone, block, record_reply, id_alone, resource_reply, count_alone, id_list}
use Rattle.dlp_replies.specs.ReplyReading.{reply_byte}
use Rattle.dlp_replies.specs.ReplyValues.{ReplyValue, Refused, ReadUserInfo, ReadDbList, OpenDb, CreateDb, ReadAppBlock, ReadSortBlock, ReadNextModifiedRec}
use Rattle.dlp_replies.specs.ReplyValues.{ReadRecord, WriteRecord, ReadResource, ReadOpenDbInfo, ReadRecordIdList, WriteUserInfo, CloseDb, DeleteDb}
use Rattle.dlp_replies.specs.ReplyValues.{WriteAppBlock, WriteSortBlock, DeleteRecord, WriteResource, DeleteResource, CleanUpDatabase, ResetSyncFlags}
use Rattle.dlp_replies.specs.ReplyValues.{ResetRecordIndex, AddSyncLogEntry, MoveCategory, OpenConduit, EndOfSync, ReadSysInfo}

-- an error of a function; a function's reply without an argument; and one with an argument of this
-- layout
pub data Frame : Type 0 where
  Refusal : (number : ℕ) → (code : ℕ) → Frame
  Alone : (number : ℕ) → Frame
  With : (number : ℕ) (kinds : List CellKind) → Fields kinds → Frame

-- a name with its zero; an empty name is no byte
abbrev pub name_text : List ℕ → List ℕ
name_text [] = []
name_text (byte ∷ bytes) = (byte ∷ bytes) ++ 0 ∷ []

-- the function's byte, and what the argument holds
abbrev pub frame : ReplyValue → Frame
frame (Refused number code) = Refusal number code
frame (ReadUserInfo user viewer pc good last name password) = With 0x10 user_info (
  user,
  (viewer, (pc, (wire_date good, (wire_date last, ((name_text name, password), tt))))),
)
frame (ReadSysInfo rom locale product) = With 0x12 sys_info (
  rom,
  (locale, (tt, (length product, (product, tt)))),
)
frame (ReadDbList last flags entries) = With 0x16 db_list (
  last,
  (flags, (length entries, (entries_text entries, tt))),
)
frame (OpenDb handle) = With 0x17 handle_alone (handle, tt)
frame (CreateDb handle) = With 0x18 handle_alone (handle, tt)
frame (ReadAppBlock bytes) = With 0x1B block (bytes, tt)
frame (ReadSortBlock bytes) = With 0x1D block (bytes, tt)
frame (ReadNextModifiedRec id index size attributes category bytes) = With 0x1F record_reply (
  id,
  (index, (size, (attributes, (category, (bytes, tt))))),
)
frame (ReadRecord id index size attributes category bytes) = With 0x20 record_reply (
  id,
  (index, (size, (attributes, (category, (bytes, tt))))),
)
frame (WriteRecord id) = With 0x21 id_alone (id, tt)
frame (ReadResource kind id index size bytes) = With 0x23 resource_reply (
  kind,
  (id, (index, (size, (bytes, tt)))),
)
frame (ReadOpenDbInfo count) = With 0x2B count_alone (count, tt)
frame (ReadRecordIdList ids) = With 0x31 id_list (length ids, (ids_text ids, tt))
frame WriteUserInfo = Alone 0x11
frame CloseDb = Alone 0x19
frame DeleteDb = Alone 0x1A
frame WriteAppBlock = Alone 0x1C
frame WriteSortBlock = Alone 0x1E
frame DeleteRecord = Alone 0x22
frame WriteResource = Alone 0x24
frame DeleteResource = Alone 0x25
frame CleanUpDatabase = Alone 0x26
frame ResetSyncFlags = Alone 0x27
frame ResetRecordIndex = Alone 0x30
frame AddSyncLogEntry = Alone 0x2A
frame MoveCategory = Alone 0x2C
frame OpenConduit = Alone 0x2E
frame EndOfSync = Alone 0x2F

-- the text of each
abbrev pub frame_text : Frame → List ℕ
frame_text (Refusal number code) = reply_byte number ∷ 0 ∷ to_be_bytes w16 code
frame_text (Alone number) = (number + 0x80) ∷ 0 ∷ 0 ∷ 0 ∷ []
frame_text (With number kinds fields) =
    (number + 0x80) ∷ 1 ∷ 0 ∷ 0 ∷ arg_text (record { id = 0x20; bytes = fields_text kinds fields })

-- the byte of the function that is answered
abbrev pub function_byte : Frame → ℕ
function_byte (Refusal number code) = number
function_byte (Alone number) = number
function_byte (With number kinds fields) = number

-- the text that is written of a reply
abbrev pub reply_text : ReplyValue → List ℕ
reply_text value = frame_text (frame value)

-- an error that is one, or cells that keep their bounds
abbrev pub FrameFits : Frame → Type 0
FrameFits (Refusal number code) = (0 < code) × (code < 2 ^ 16)
FrameFits (Alone number) = Unit {0}
FrameFits (With number kinds fields) = FieldsFit kinds fields

-- the bounds of values
abbrev pub ValuesFit : ReplyValue → Type 0
ValuesFit (ReadUserInfo user viewer pc good last name password) =
    (good < 2 ^ 32) × (last < 2 ^ 32) × (length name ≤ 40) × HasNoZero name
    × (length password ≤ 40)
ValuesFit (ReadDbList last flags entries) = AllByRecursion IsEntry entries
ValuesFit (ReadNextModifiedRec id index size attributes category bytes) =
    IsId id × (category ≤ 15) × (length bytes ≤ most_bytes)
ValuesFit (ReadRecord id index size attributes category bytes) =
    IsId id × (category ≤ 15) × (length bytes ≤ most_bytes)
ValuesFit (WriteRecord id) = IsId id
ValuesFit (ReadRecordIdList ids) = AllByRecursion IsId ids
ValuesFit value = Unit {0}

-- the fields keep the bounds of the layout and of its values, and the text fits into a message
pub record IsReply (value : ReplyValue) : Type 0 where
  pub fields : FrameFits (frame value)
  pub values : ValuesFit value
  pub fits : length (reply_text value) ≤ 65535
