-- What contracts see of a reply that is lent.
use Rattle.dlp_args.specs.Fields.{Fields}
use Rattle.dlp_replies.specs.EntryLists.{Row}
use Rattle.dlp_replies.specs.Layouts.{record_reply}
use Rattle.dlp_replies.specs.declared.entry.EntryCells.{EntryCells}
use Rattle.dlp_replies.specs.declared.record.RecordCells.{RecordCells}
use Rattle.dlp_replies.specs.declared.reply.Reply.{Reply}
use Rattle.dlp_replies.specs.declared.reply.Reply.TheVariants as lent
use Rattle.dlp_replies.specs.ReplyValues.{ReplyValue, Refused, ReadUserInfo, ReadDbList, OpenDb, CreateDb, ReadAppBlock, ReadSortBlock, ReadNextModifiedRec}
use Rattle.dlp_replies.specs.ReplyValues.{ReadRecord, WriteRecord, ReadResource, ReadOpenDbInfo, ReadRecordIdList, WriteUserInfo, CloseDb, DeleteDb}
use Rattle.dlp_replies.specs.ReplyValues.{WriteAppBlock, WriteSortBlock, DeleteRecord, WriteResource, DeleteResource, CleanUpDatabase, ResetSyncFlags}
use Rattle.dlp_replies.specs.ReplyValues.{ResetRecordIndex, AddSyncLogEntry, MoveCategory, OpenConduit, EndOfSync, ReadSysInfo}

-- a lent reply is what it says, with the bytes that it lends
abbrev pub reply_value : Reply → ReplyValue
reply_value (lent.Refused function code) = Refused function code.0
reply_value (lent.ReadUserInfo user viewer pc good last name password) =
    ReadUserInfo user viewer pc good last name.now password.now
reply_value (lent.ReadSysInfo rom locale product) = ReadSysInfo rom locale product.now
reply_value (lent.ReadDbList last flags entries) = ReadDbList last flags entries
reply_value (lent.OpenDb handle) = OpenDb handle
reply_value (lent.CreateDb handle) = CreateDb handle
reply_value (lent.ReadAppBlock bytes) = ReadAppBlock bytes.now
reply_value (lent.ReadSortBlock bytes) = ReadSortBlock bytes.now
reply_value (lent.ReadNextModifiedRec id index size attributes category bytes) =
    ReadNextModifiedRec id index size attributes category bytes.now
reply_value (lent.ReadRecord id index size attributes category bytes) =
    ReadRecord id index size attributes category bytes.now
reply_value (lent.WriteRecord id) = WriteRecord id
reply_value (lent.ReadResource kind id index size bytes) =
    ReadResource kind.0 id index size bytes.now
reply_value (lent.ReadOpenDbInfo count) = ReadOpenDbInfo count
reply_value (lent.ReadRecordIdList ids) = ReadRecordIdList ids
reply_value lent.WriteUserInfo = WriteUserInfo
reply_value lent.CloseDb = CloseDb
reply_value lent.DeleteDb = DeleteDb
reply_value lent.WriteAppBlock = WriteAppBlock
reply_value lent.WriteSortBlock = WriteSortBlock
reply_value lent.DeleteRecord = DeleteRecord
reply_value lent.WriteResource = WriteResource
reply_value lent.DeleteResource = DeleteResource
reply_value lent.CleanUpDatabase = CleanUpDatabase
reply_value lent.ResetSyncFlags = ResetSyncFlags
reply_value lent.ResetRecordIndex = ResetRecordIndex
reply_value lent.AddSyncLogEntry = AddSyncLogEntry
reply_value lent.MoveCategory = MoveCategory
reply_value lent.OpenConduit = OpenConduit
reply_value lent.EndOfSync = EndOfSync

-- the cells of a record reply
abbrev pub record_fields : RecordCells → Fields record_reply
record_fields cells = (
  cells.id,
  (cells.index, (cells.size, (cells.attributes, (cells.category, (cells.bytes.now, tt))))),
)

-- the cells of an entry
abbrev pub entry_row : EntryCells → Row
entry_row cells = (
  cells.size,
  (
    tt,
    (
      cells.attributes,
      (
        cells.kind.0,
        (
          cells.creator.0,
          (
            cells.version,
            (
              cells.modnum,
              (
                cells.created,
                (cells.modified, (cells.backup, (cells.index, (cells.name.now, tt)))),
              ),
            ),
          ),
        ),
      ),
    ),
  ),
)
