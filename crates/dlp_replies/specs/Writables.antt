-- What the fields of a reply keep beside the bounds of their types, so that it can be written
-- (pilot-link, `dlp.c`).
use Rattle.std.specs.Prelude.{◌≡◌, ◌<◌, ◌≤◌, ℕ, length}
use Rattle.std.specs.List.{AllByRecursion}
use Rattle.pdb_values.specs.Bounds.{most_bytes}
use Rattle.pdb_values.specs.declared.head.DbHead.{DbHead}
use Rattle.dlp_args.specs.Cells.{HasNoZero}
use Rattle.dlp_replies.specs.Frames.{reply_text}
use Rattle.dlp_replies.specs.ReplyValues.{ReplyValue, Refused, ReadUserInfo, ReadDbList, ReadAppBlock, ReadSortBlock, ReadNextModifiedRec, ReadRecord}
use Rattle.dlp_replies.specs.ReplyValues.{ReadResource, ReadSysInfo}

-- an entry whose head has no seed
abbrev pub HasNoSeed : ℕ × DbHead → Type 0
HasNoSeed item = item.1.seed ≡ 0

-- the code is not 0; names of at most 40 bytes, without a zero, and passwords of as many; a
-- product's id of at most 255 bytes; at most 255 entries, without seeds; blocks, records and
-- resources of at most 65,500 bytes
abbrev pub KeepsBounds : ReplyValue → Type 0
KeepsBounds (Refused number code) = 0 < code
KeepsBounds (ReadUserInfo user viewer pc good last name password) =
    (length name ≤ 40) × HasNoZero name × (length password ≤ 40)
KeepsBounds (ReadSysInfo rom locale product) = length product ≤ 255
KeepsBounds (ReadDbList last flags entries) =
    (length entries ≤ 255) × AllByRecursion HasNoSeed entries
KeepsBounds (ReadAppBlock bytes) = length bytes ≤ most_bytes
KeepsBounds (ReadSortBlock bytes) = length bytes ≤ most_bytes
KeepsBounds (ReadNextModifiedRec id index size attributes category bytes) =
    length bytes ≤ most_bytes
KeepsBounds (ReadRecord id index size attributes category bytes) = length bytes ≤ most_bytes
KeepsBounds (ReadResource kind id index size bytes) = length bytes ≤ most_bytes
KeepsBounds value = Unit {0}

-- the fields keep their bounds, and the text fits into a message
pub record IsWritable (value : ReplyValue) : Type 0 where
  pub bounds : KeepsBounds value
  pub fits : length (reply_text value) ≤ 65535
