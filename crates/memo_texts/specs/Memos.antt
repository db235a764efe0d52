-- Memos as text in UTF-8: the head line and the lines of each. The only lines that begin with three
-- dashes and no fourth are the heads.
use Rattle.std.specs.Prelude.{ℕ, ◌<◌, ◌==◌, Bool, List, [], ◌∷◌, ◌++◌, codes, slice_index, if◌then◌else◌}
use Rattle.std.specs.List.{flat_map}
use Rattle.palm_records.specs.Characters.{char_text}
use Rattle.memo_texts.specs.ExportHeads.{begins_with, head_line, id_limit, line_feed}

-- a memo: the id of its record, whether it is private, the label of its category (empty: none), and
-- its text as a Palm's bytes
pub record MemoValue : Type 0 where
  pub id : ℕ
  pub secret : Bool
  pub label : List ℕ
  pub text : List ℕ

-- each is a byte
abbrev pub IsBytes : List ℕ → Type 0
IsBytes bytes = (i : ℕ) → slice_index bytes i < 256

-- an id has 24 bits, and the others are bytes
pub record IsMemo (memo : MemoValue) : Type 0 where
  pub id : memo.id < id_limit
  pub label : IsBytes memo.label
  pub text : IsBytes memo.text

-- a dash in front of a line that begins with three
abbrev pub guard : List ℕ → List ℕ
guard line = if begins_with (codes "---") line then codes "-" else []

-- what stands in front of the line that begins behind a byte
abbrev pub guard_behind : ℕ → List ℕ → List ℕ
guard_behind byte rest = if byte == 10 then guard rest else []

-- the rest of a memo, from inside a line; the last line is ended, too
unfoldable pub lines_from : List ℕ → List ℕ
lines_from [] = line_feed
lines_from (byte ∷ rest) = (char_text byte ++ guard_behind byte rest) ++ lines_from rest

-- the lines of a memo
abbrev pub memo_lines : List ℕ → List ℕ
memo_lines text = guard text ++ lines_from text

-- a memo's head and lines
abbrev pub memo_text : MemoValue → List ℕ
memo_text memo = head_line memo.id memo.secret memo.label ++ memo_lines memo.text

-- a memo behind the other
abbrev pub memos_text : List MemoValue → List ℕ
memos_text memos = flat_map memo_text memos
