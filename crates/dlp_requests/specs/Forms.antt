-- The forms of requests: a function, the id of its argument, and what the argument is made of
-- (pilot-link, `dlp.c`, `pi-dlp.h`).
use Rattle.std.specs.Prelude.{ℕ, List, [], ◌∷◌, Option, Some, None}
use Rattle.dlp_args.specs.Cells.{CellKind, Byte, Half, Word, Pad, Run, Text, MaybeText, Rest, Counted}

-- one for each function; ReadSysInfo, ReadRecord and ReadResource have two
pub data Form : Type 0 where
  ReadUserInfo : Form
  WriteUserInfo : Form
  ReadSysInfo : Form
  ReadSysInfoFor : Form
  ReadDbList : Form
  OpenDb : Form
  CreateDb : Form
  CloseDb : Form
  DeleteDb : Form
  ReadAppBlock : Form
  WriteAppBlock : Form
  ReadSortBlock : Form
  WriteSortBlock : Form
  ReadNextModifiedRec : Form
  ReadRecordById : Form
  ReadRecordByIndex : Form
  WriteRecord : Form
  DeleteRecord : Form
  ReadResourceByIndex : Form
  ReadResourceByType : Form
  WriteResource : Form
  DeleteResource : Form
  CleanUpDatabase : Form
  ResetSyncFlags : Form
  AddSyncLogEntry : Form
  ReadOpenDbInfo : Form
  MoveCategory : Form
  OpenConduit : Form
  EndOfSync : Form
  ResetRecordIndex : Form
  ReadRecordIdList : Form

-- the function's byte, the id of the argument where there is one, and the argument's cells
pub record Layout : Type 0 where
  pub number : ℕ
  pub argument : Option ℕ
  pub kinds : List CellKind

abbrev pub bare : ℕ → Layout
bare number = record { number = number; argument = None; kinds = [] }

abbrev pub one : ℕ → ℕ → List CellKind → Layout
one number id kinds = record { number = number; argument = Some id; kinds = kinds }

-- the layout of each form; the names of its fields stand in `request_value`
abbrev pub layout : Form → Layout
layout ReadUserInfo = bare 0x10
layout WriteUserInfo = one 0x11 0x20 (Word ∷ Word ∷ Word ∷ Run 8 ∷ Byte ∷ Byte ∷ MaybeText 40 ∷ [])
layout ReadSysInfo = bare 0x12
layout ReadSysInfoFor = one 0x12 0x20 (Half ∷ Half ∷ [])
layout ReadDbList = one 0x16 0x20 (Byte ∷ Byte ∷ Half ∷ [])
layout OpenDb = one 0x17 0x20 (Byte ∷ Byte ∷ Text ∷ [])
layout CreateDb = one 0x18 0x20 (Run 4 ∷ Run 4 ∷ Byte ∷ Pad ∷ Half ∷ Half ∷ Text ∷ [])
layout CloseDb = one 0x19 0x20 (Byte ∷ [])
layout DeleteDb = one 0x1A 0x20 (Byte ∷ Pad ∷ Text ∷ [])
layout ReadAppBlock = one 0x1B 0x20 (Byte ∷ Pad ∷ Half ∷ Half ∷ [])
layout WriteAppBlock = one 0x1C 0x20 (Byte ∷ Pad ∷ Counted ∷ [])
layout ReadSortBlock = one 0x1D 0x20 (Byte ∷ Pad ∷ Half ∷ Half ∷ [])
layout WriteSortBlock = one 0x1E 0x20 (Byte ∷ Pad ∷ Counted ∷ [])
layout ReadNextModifiedRec = one 0x1F 0x20 (Byte ∷ [])
layout ReadRecordById = one 0x20 0x20 (Byte ∷ Pad ∷ Word ∷ Half ∷ Half ∷ [])
layout ReadRecordByIndex = one 0x20 0x21 (Byte ∷ Pad ∷ Half ∷ Half ∷ Half ∷ [])
layout WriteRecord = one 0x21 0x20 (Byte ∷ Byte ∷ Word ∷ Byte ∷ Byte ∷ Rest ∷ [])
layout DeleteRecord = one 0x22 0x20 (Byte ∷ Byte ∷ Word ∷ [])
layout ReadResourceByIndex = one 0x23 0x20 (Byte ∷ Pad ∷ Half ∷ Half ∷ Half ∷ [])
layout ReadResourceByType = one 0x23 0x21 (Byte ∷ Pad ∷ Run 4 ∷ Half ∷ Half ∷ Half ∷ [])
layout WriteResource = one 0x24 0x20 (Byte ∷ Pad ∷ Run 4 ∷ Half ∷ Counted ∷ [])
layout DeleteResource = one 0x25 0x20 (Byte ∷ Byte ∷ Run 4 ∷ Half ∷ [])
layout CleanUpDatabase = one 0x26 0x20 (Byte ∷ [])
layout ResetSyncFlags = one 0x27 0x20 (Byte ∷ [])
layout AddSyncLogEntry = one 0x2A 0x20 (Text ∷ [])
layout ReadOpenDbInfo = one 0x2B 0x20 (Byte ∷ [])
layout MoveCategory = one 0x2C 0x20 (Byte ∷ Byte ∷ Byte ∷ Pad ∷ [])
layout OpenConduit = bare 0x2E
layout EndOfSync = one 0x2F 0x20 (Half ∷ [])
layout ResetRecordIndex = one 0x30 0x20 (Byte ∷ [])
layout ReadRecordIdList = one 0x31 0x20 (Byte ∷ Byte ∷ Half ∷ Half ∷ [])

-- the function's byte
abbrev pub number_of : Form → ℕ
number_of form = (layout form).number

-- the id of the argument, where there is one
abbrev pub argument_of : Form → Option ℕ
argument_of form = (layout form).argument

-- what the argument is made of
abbrev pub kinds_of : Form → List CellKind
kinds_of form = (layout form).kinds
