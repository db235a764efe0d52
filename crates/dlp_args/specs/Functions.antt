-- The functions of the protocol and their bytes (pilot-link, `pi-dlp.h`).
use Rattle.std.specs.Prelude.{ℕ, Option, Some, None, ◌==◌, if◌then◌else◌}
use Rattle.dlp_args.specs.declared.function.Function.{Function}
use Rattle.dlp_args.specs.declared.function.Function.TheVariants.{ReadUserInfo, WriteUserInfo, ReadDbList, OpenDb, CreateDb, CloseDb, DeleteDb, ReadAppBlock}
use Rattle.dlp_args.specs.declared.function.Function.TheVariants.{WriteAppBlock, ReadSortBlock, WriteSortBlock, ReadNextModifiedRec, ReadRecord, WriteRecord}
use Rattle.dlp_args.specs.declared.function.Function.TheVariants.{DeleteRecord, ReadResource, WriteResource, DeleteResource, CleanUpDatabase, ResetSyncFlags}
use Rattle.dlp_args.specs.declared.function.Function.TheVariants.{AddSyncLogEntry, ReadOpenDbInfo, MoveCategory, OpenConduit, EndOfSync, ResetRecordIndex}
use Rattle.dlp_args.specs.declared.function.Function.TheVariants.{ReadRecordIdList, ReadSysInfo}

-- the byte of a function
abbrev pub number_of : Function → ℕ
number_of ReadUserInfo = 0x10
number_of WriteUserInfo = 0x11
number_of ReadSysInfo = 0x12
number_of ReadDbList = 0x16
number_of OpenDb = 0x17
number_of CreateDb = 0x18
number_of CloseDb = 0x19
number_of DeleteDb = 0x1A
number_of ReadAppBlock = 0x1B
number_of WriteAppBlock = 0x1C
number_of ReadSortBlock = 0x1D
number_of WriteSortBlock = 0x1E
number_of ReadNextModifiedRec = 0x1F
number_of ReadRecord = 0x20
number_of WriteRecord = 0x21
number_of DeleteRecord = 0x22
number_of ReadResource = 0x23
number_of WriteResource = 0x24
number_of DeleteResource = 0x25
number_of CleanUpDatabase = 0x26
number_of ResetSyncFlags = 0x27
number_of AddSyncLogEntry = 0x2A
number_of ReadOpenDbInfo = 0x2B
number_of MoveCategory = 0x2C
number_of OpenConduit = 0x2E
number_of EndOfSync = 0x2F
number_of ResetRecordIndex = 0x30
number_of ReadRecordIdList = 0x31

-- the function of a byte, where there is one
unfoldable pub function_of : ℕ → Option Function
function_of n =
    if n == 0x10 then Some ReadUserInfo else
    if n == 0x11 then Some WriteUserInfo else
    if n == 0x12 then Some ReadSysInfo else
    if n == 0x16 then Some ReadDbList else
    if n == 0x17 then Some OpenDb else
    if n == 0x18 then Some CreateDb else
    if n == 0x19 then Some CloseDb else
    if n == 0x1A then Some DeleteDb else
    if n == 0x1B then Some ReadAppBlock else
    if n == 0x1C then Some WriteAppBlock else
    if n == 0x1D then Some ReadSortBlock else
    if n == 0x1E then Some WriteSortBlock else
    if n == 0x1F then Some ReadNextModifiedRec else
    if n == 0x20 then Some ReadRecord else
    if n == 0x21 then Some WriteRecord else
    if n == 0x22 then Some DeleteRecord else
    if n == 0x23 then Some ReadResource else
    if n == 0x24 then Some WriteResource else
    if n == 0x25 then Some DeleteResource else
    if n == 0x26 then Some CleanUpDatabase else
    if n == 0x27 then Some ResetSyncFlags else
    if n == 0x2A then Some AddSyncLogEntry else
    if n == 0x2B then Some ReadOpenDbInfo else
    if n == 0x2C then Some MoveCategory else
    if n == 0x2E then Some OpenConduit else
    if n == 0x2F then Some EndOfSync else
    if n == 0x30 then Some ResetRecordIndex else
    if n == 0x31 then Some ReadRecordIdList else
    None
