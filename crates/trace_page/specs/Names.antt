-- The name of what a frame bears: a greeting, a request or a reply by the function's name
-- (pilot-link, `pi-dlp.h`), an acknowledgement.
use Rattle.std.specs.Prelude.{ℕ, ◌-◌, ◌==◌, ◌&&◌, Bool, false, not, List, [], ◌++◌, codes, Option, Some, None, if◌then◌else◌}
use Rattle.std.specs.Fmt.{decimal}
use Rattle.dlp_args.specs.Functions.{function_of}
use Rattle.dlp_args.specs.declared.function.Function.{Function}
use Rattle.dlp_args.specs.declared.function.Function.TheVariants.{ReadUserInfo, WriteUserInfo, ReadDbList, OpenDb, CreateDb, CloseDb, DeleteDb, ReadAppBlock}
use Rattle.dlp_args.specs.declared.function.Function.TheVariants.{WriteAppBlock, ReadSortBlock, WriteSortBlock, ReadNextModifiedRec, ReadRecord, WriteRecord}
use Rattle.dlp_args.specs.declared.function.Function.TheVariants.{DeleteRecord, ReadResource, WriteResource, DeleteResource, CleanUpDatabase, ResetSyncFlags}
use Rattle.dlp_args.specs.declared.function.Function.TheVariants.{AddSyncLogEntry, ReadOpenDbInfo, MoveCategory, OpenConduit, EndOfSync, ResetRecordIndex}
use Rattle.dlp_args.specs.declared.function.Function.TheVariants.{ReadRecordIdList, ReadSysInfo}
use Rattle.padp_link.specs.declared.fragment.PadpKind.{PadpKind}
use Rattle.padp_link.specs.declared.fragment.PadpKind.TheVariants.{Data, Ack, Tickle, Abort}
use Rattle.trace_text.specs.declared.frame.End.{End}
use Rattle.trace_text.specs.declared.frame.End.TheVariants.{Handheld, Desktop}
use Rattle.trace_page.specs.Bearings.{begins_message, ends_message, is_greeting}
use Rattle.trace_page.specs.declared.bearing.Bearing.{Bearing}

-- the name of a function
abbrev pub function_word : Function → List ℕ
function_word ReadUserInfo = codes "ReadUserInfo"
function_word WriteUserInfo = codes "WriteUserInfo"
function_word ReadSysInfo = codes "ReadSysInfo"
function_word ReadDbList = codes "ReadDBList"
function_word OpenDb = codes "OpenDB"
function_word CreateDb = codes "CreateDB"
function_word CloseDb = codes "CloseDB"
function_word DeleteDb = codes "DeleteDB"
function_word ReadAppBlock = codes "ReadAppBlock"
function_word WriteAppBlock = codes "WriteAppBlock"
function_word ReadSortBlock = codes "ReadSortBlock"
function_word WriteSortBlock = codes "WriteSortBlock"
function_word ReadNextModifiedRec = codes "ReadNextModifiedRec"
function_word ReadRecord = codes "ReadRecord"
function_word WriteRecord = codes "WriteRecord"
function_word DeleteRecord = codes "DeleteRecord"
function_word ReadResource = codes "ReadResource"
function_word WriteResource = codes "WriteResource"
function_word DeleteResource = codes "DeleteResource"
function_word CleanUpDatabase = codes "CleanUpDatabase"
function_word ResetSyncFlags = codes "ResetSyncFlags"
function_word AddSyncLogEntry = codes "AddSyncLogEntry"
function_word ReadOpenDbInfo = codes "ReadOpenDBInfo"
function_word MoveCategory = codes "MoveCategory"
function_word OpenConduit = codes "OpenConduit"
function_word EndOfSync = codes "EndOfSync"
function_word ResetRecordIndex = codes "ResetRecordIndex"
function_word ReadRecordIdList = codes "ReadRecordIDList"

-- a greeting by its first byte
abbrev pub greeting_word : ℕ → List ℕ
greeting_word front =
    if front == 1 then codes "Wake" else (if front == 2 then codes "Init" else codes "greeting")

-- a request by its function, where there is one
abbrev pub request_word : Option Function → List ℕ
request_word None = codes "request"
request_word (Some function) = function_word function

-- the word of a reply
abbrev pub reply_ending : End → List ℕ
reply_ending Handheld = codes " reply"
reply_ending Desktop = []

-- a request begins with the byte of its function, a reply with that and 0x80
abbrev pub function_byte : End → ℕ → ℕ
function_byte Handheld front = front - 0x80
function_byte Desktop front = front

-- a message of an end by its first byte
unfoldable pub message_word : End → Bearing → ℕ → List ℕ
message_word from bearing front =
    if is_greeting bearing then greeting_word front
    else request_word (function_of (function_byte from front)) ++ reply_ending from

-- which part of its message it is, where that has more than one
unfoldable pub part_word : Bearing → List ℕ
part_word bearing =
    if begins_message bearing then (if ends_message bearing then [] else codes " (first part)")
    else codes " (part at " ++ decimal bearing.key.size ++ codes ")"

-- a handheld's reply that says an error
abbrev pub says_error : End → Bearing → Bool
says_error Handheld bearing =
    begins_message bearing && not (is_greeting bearing) && not (bearing.error == 0)
says_error Desktop bearing = false

-- the error of a reply
abbrev pub error_word : End → Bearing → List ℕ
error_word from bearing =
    if says_error from bearing then codes " error " ++ decimal bearing.error else []

-- a part of the message that begins with this byte, or what else a frame is
abbrev pub name_by : PadpKind → End → Bearing → ℕ → List ℕ
name_by Data from bearing front =
    message_word from bearing front ++ part_word bearing ++ error_word from bearing
name_by Ack from bearing front = codes "ack"
name_by Tickle from bearing front = codes "tickle"
name_by Abort from bearing front = codes "abort"

-- the name of what an end's frame bears, where the message that the end is at begins with this byte
unfoldable pub name_of : End → Bearing → ℕ → List ℕ
name_of from bearing front = name_by bearing.kind from bearing front
