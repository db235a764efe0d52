-- What is wrong with a line of which nothing is read, and at which of its characters, from 1.
use Rattle.std.specs.Prelude.{ℕ, suc, ◌+◌, ◌-◌, Bool, List, [], ◌∷◌, chars, codes, drop, length, take, Option, None, Some, if◌then◌else◌}
use Rattle.std.specs.Option.{is_none}
use Rattle.std.specs.Str.Lossy.{utf8_valid_len}
use Rattle.memo_texts.specs.declared.fault.Flaw.{Flaw}
use Rattle.memo_texts.specs.declared.fault.Flaw.TheVariants.{NotUtf8, NoByte, BadHead, LongLabel, NoHead, LongMemo}
use Rattle.memo_texts.specs.declared.fault.LineFlaw.{LineFlaw}
use Rattle.memo_texts.specs.ExportHeads.{begins_with}
use Rattle.memo_texts.specs.Memos.{MemoValue}
use Rattle.memo_texts.specs.Characters.{byte_of, line_bytes}
use Rattle.memo_texts.specs.Heads.{id_of, is_head, tail_of}
use Rattle.memo_texts.specs.Lines.{without_return}

-- this is wrong at a character
abbrev pub flaw_at : ℕ → Flaw → LineFlaw
flaw_at column flaw = record { column = column; flaw = flaw }

-- characters in front of bytes that are not UTF-8, counted on from a column: the first of them that
-- has no byte is wrong, or else what stands behind them
unfoldable pub flaw_from : ℕ → List ℕ → LineFlaw
flaw_from column [] = flaw_at column NotUtf8
flaw_from column (c ∷ cs) =
    if is_none (byte_of c) then flaw_at column (NoByte c) else flaw_from (suc column) cs

-- a line that has no bytes on a Palm
abbrev pub character_flaw : List ℕ → LineFlaw
character_flaw line = flaw_from 1 (chars (take (utf8_valid_len line) line))

-- a head with this id, and with these bytes from a column on, which are read as a mark and a label
abbrev pub flaw_behind : ℕ → List ℕ → Option ℕ → Option (Bool × List ℕ) → LineFlaw
flaw_behind column rest None tail = flaw_at 5 BadHead
flaw_behind column rest (Some id) None = flaw_at column BadHead
flaw_behind column rest (Some id) (Some tail) =
    flaw_at (column + (length rest - length tail.1) + 15) LongLabel

-- a head with these bytes behind `--- `
abbrev pub head_rest_flaw : List ℕ → LineFlaw
head_rest_flaw rest =
    if begins_with (codes "new") rest
    then flaw_behind 8 (drop 3 rest) (Some 0) (tail_of (drop 3 rest))
    else flaw_behind 11 (drop 6 rest) (id_of (take 6 rest)) (tail_of (drop 6 rest))

-- a head that begins no memo: the fourth character is no space, the fifth begins no id, what stands
-- behind the id is no mark and no label, or the sixteenth character of the label is one too many
unfoldable pub head_flaw : List ℕ → LineFlaw
head_flaw line =
    if begins_with (codes "--- ") line then head_rest_flaw (drop 4 line) else flaw_at 4 BadHead

-- a line of text behind the last memo, where there is one
abbrev pub text_flaw : Option MemoValue → LineFlaw
text_flaw None = flaw_at 1 NoHead
text_flaw (Some memo) = flaw_at 1 LongMemo

-- the bytes of a line behind the last memo
abbrev pub bytes_flaw : Option MemoValue → List ℕ → LineFlaw
bytes_flaw last bytes = if is_head bytes then head_flaw bytes else text_flaw last

-- a line with these bytes, where it has any
abbrev pub flaw_of_bytes : Option MemoValue → List ℕ → Option (List ℕ) → LineFlaw
flaw_of_bytes last line None = character_flaw line
flaw_of_bytes last line (Some bytes) = bytes_flaw last bytes

-- a line behind the last memo
unfoldable pub line_flaw : Option MemoValue → List ℕ → LineFlaw
line_flaw last line = flaw_of_bytes last (without_return line) (line_bytes (without_return line))
