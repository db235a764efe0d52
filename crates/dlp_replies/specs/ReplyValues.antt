-- What a reply says, wherever its bytes lie (pilot-link, `pi-dlp.h`).
use Rattle.std.specs.Prelude.{ℕ, List}
use Rattle.pdb_values.specs.declared.head.DbHead.{DbHead}

-- a refusal of any function with its error code, or the reply of each function; an entry is a
-- database's index and head
pub data ReplyValue : Type 0 where
  Refused : (function : ℕ) → (code : ℕ) → ReplyValue
  ReadUserInfo : (user : ℕ) → (viewer : ℕ) → (pc : ℕ) → (good : ℕ) → (last : ℕ) → (name : List ℕ)
      → (password : List ℕ) → ReplyValue
  ReadSysInfo : (rom : ℕ) → (locale : ℕ) → (product : List ℕ) → ReplyValue
  ReadDbList : (last : ℕ) → (flags : ℕ) → (entries : List (ℕ × DbHead)) → ReplyValue
  OpenDb : (handle : ℕ) → ReplyValue
  CreateDb : (handle : ℕ) → ReplyValue
  ReadAppBlock : (bytes : List ℕ) → ReplyValue
  ReadSortBlock : (bytes : List ℕ) → ReplyValue
  ReadNextModifiedRec : (id : ℕ) → (index : ℕ) → (size : ℕ) → (attributes : ℕ) → (category : ℕ)
      → (bytes : List ℕ) → ReplyValue
  ReadRecord : (id : ℕ) → (index : ℕ) → (size : ℕ) → (attributes : ℕ) → (category : ℕ)
      → (bytes : List ℕ) → ReplyValue
  WriteRecord : (id : ℕ) → ReplyValue
  ReadResource : (kind : List ℕ) → (id : ℕ) → (index : ℕ) → (size : ℕ) → (bytes : List ℕ)
      → ReplyValue
  ReadOpenDbInfo : (count : ℕ) → ReplyValue
  ReadRecordIdList : (ids : List ℕ) → ReplyValue
  WriteUserInfo : ReplyValue
  CloseDb : ReplyValue
  DeleteDb : ReplyValue
  WriteAppBlock : ReplyValue
  WriteSortBlock : ReplyValue
  DeleteRecord : ReplyValue
  WriteResource : ReplyValue
  DeleteResource : ReplyValue
  CleanUpDatabase : ReplyValue
  ResetSyncFlags : ReplyValue
  ResetRecordIndex : ReplyValue
  AddSyncLogEntry : ReplyValue
  MoveCategory : ReplyValue
  OpenConduit : ReplyValue
  EndOfSync : ReplyValue
