-- The reply of each function: no argument, or one with its layout, its values and what they say
-- (pilot-link, `pi-dlp.h`).
use Rattle.std.specs.Prelude.{◌*◌, ◌==◌, Bool, true, List, [], map, length, Option, Some, None, is_some}
use Rattle.pdb_values.specs.PalmDates.{read_wire}
use Rattle.dlp_args.specs.declared.function.Function.{Function}
use Rattle.dlp_args.specs.declared.function.Function.TheVariants as function
use Rattle.dlp_args.specs.Cells.{CellKind}
use Rattle.dlp_args.specs.Fields.{Fields}
use Rattle.dlp_replies.specs.Checks.{Checks, user_sizes, user_checks, record_checks, id_checks, user_name, text_or_none, date_or_zero}
use Rattle.dlp_replies.specs.EntryReading.{rows_of, rows_or_none, rows_checks, item_of}
use Rattle.dlp_replies.specs.IdLists.{words, ids_checks}
use Rattle.dlp_replies.specs.Layouts.{user_info, sys_info, db_list, handle_alone, block, record_reply, id_alone, resource_reply, count_alone, id_list}
use Rattle.dlp_replies.specs.ReplyValues.{ReplyValue, ReadUserInfo, ReadDbList, OpenDb, CreateDb, ReadAppBlock, ReadSortBlock, ReadNextModifiedRec, ReadRecord}
use Rattle.dlp_replies.specs.ReplyValues.{WriteRecord, ReadResource, ReadOpenDbInfo, ReadRecordIdList, WriteUserInfo, CloseDb, DeleteDb, WriteAppBlock}
use Rattle.dlp_replies.specs.ReplyValues.{WriteSortBlock, DeleteRecord, WriteResource, DeleteResource, CleanUpDatabase, ResetSyncFlags, ResetRecordIndex}
use Rattle.dlp_replies.specs.ReplyValues.{AddSyncLogEntry, MoveCategory, OpenConduit, EndOfSync, ReadSysInfo}

-- no function; no argument; or one argument: its layout, a test of the lengths in it, tests of its
-- values, and what it says
pub data Shape : Type 0 where
  Unknown : Shape
  Bare : ReplyValue → Shape
  One : (kinds : List CellKind) → (Fields kinds → Bool) → (Fields kinds → Checks)
      → (Fields kinds → ReplyValue) → Shape

-- one argument with any values
abbrev pub plain : (kinds : List CellKind) → (Fields kinds → ReplyValue) → Shape
plain kinds make = One kinds (λ v. true) (λ v. []) make

-- what the cells of a user and of a resource say
abbrev pub user_said : Fields user_info → ReplyValue
user_said (user, (viewer, (pc, (good, (last, (names, end)))))) =
    ReadUserInfo user viewer pc (date_or_zero (read_wire good)) (date_or_zero (read_wire last))
    (text_or_none (user_name names.0)) names.1

abbrev pub resource_said : Fields resource_reply → ReplyValue
resource_said (kind, (id, (index, (size, (bytes, end))))) = ReadResource kind id index size bytes

-- the shape of each function's reply
abbrev pub shape : Function → Shape
shape function.ReadUserInfo = One user_info user_sizes user_checks user_said
shape function.ReadSysInfo =
    One sys_info (λ v. v.1.1.1.0 == length v.1.1.1.1.0) (λ v. [])
    (λ v. ReadSysInfo v.0 v.1.0 v.1.1.1.1.0)
shape function.ReadDbList =
    One db_list (λ v. is_some (rows_of v)) (λ v. rows_checks 4 (rows_or_none (rows_of v)))
    (λ v. ReadDbList v.0 v.1.0 (map item_of (rows_or_none (rows_of v))))
shape function.OpenDb = plain handle_alone (λ v. OpenDb v.0)
shape function.CreateDb = plain handle_alone (λ v. CreateDb v.0)
shape function.ReadAppBlock = plain block (λ v. ReadAppBlock v.0)
shape function.ReadSortBlock = plain block (λ v. ReadSortBlock v.0)
shape function.ReadNextModifiedRec =
    One record_reply (λ v. true) record_checks
    (λ v. ReadNextModifiedRec v.0 v.1.0 v.1.1.0 v.1.1.1.0 v.1.1.1.1.0 v.1.1.1.1.1.0)
shape function.ReadRecord =
    One record_reply (λ v. true) record_checks
    (λ v. ReadRecord v.0 v.1.0 v.1.1.0 v.1.1.1.0 v.1.1.1.1.0 v.1.1.1.1.1.0)
shape function.WriteRecord = One id_alone (λ v. true) id_checks (λ v. WriteRecord v.0)
shape function.ReadResource = plain resource_reply resource_said
shape function.ReadOpenDbInfo = plain count_alone (λ v. ReadOpenDbInfo v.0)
shape function.ReadRecordIdList =
    One id_list (λ v. 4 * v.0 == length v.1.0) (λ v. ids_checks 2 (words v.1.0))
    (λ v. ReadRecordIdList (words v.1.0))
shape function.WriteUserInfo = Bare WriteUserInfo
shape function.CloseDb = Bare CloseDb
shape function.DeleteDb = Bare DeleteDb
shape function.WriteAppBlock = Bare WriteAppBlock
shape function.WriteSortBlock = Bare WriteSortBlock
shape function.DeleteRecord = Bare DeleteRecord
shape function.WriteResource = Bare WriteResource
shape function.DeleteResource = Bare DeleteResource
shape function.CleanUpDatabase = Bare CleanUpDatabase
shape function.ResetSyncFlags = Bare ResetSyncFlags
shape function.ResetRecordIndex = Bare ResetRecordIndex
shape function.AddSyncLogEntry = Bare AddSyncLogEntry
shape function.MoveCategory = Bare MoveCategory
shape function.OpenConduit = Bare OpenConduit
shape function.EndOfSync = Bare EndOfSync

-- the shape of the function that a byte names
abbrev pub shape_of : Option Function → Shape
shape_of None = Unknown
shape_of (Some found) = shape found
