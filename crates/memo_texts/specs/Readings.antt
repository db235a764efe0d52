-- The memos that lines give.
use Rattle.std.specs.Prelude.{ℕ, suc, ◌-◌, List, [], ◌∷◌, ◌++◌, codes, drop, length, nat_lt, take, Option, None, Some, Result, Ok, Err, if◌then◌else◌}
use Rattle.std.specs.Option.{option_and_then, option_map, option_to_list}
use Rattle.memo_texts.specs.ExportHeads.{begins_with}
use Rattle.memo_texts.specs.Memos.{MemoValue}
use Rattle.memo_texts.specs.declared.fault.ImportFault.{ImportFault}
use Rattle.memo_texts.specs.declared.fault.ImportFault.TheVariants.{BadText}
use Rattle.memo_texts.specs.Characters.{line_bytes}
use Rattle.memo_texts.specs.Flaws.{line_flaw}
use Rattle.memo_texts.specs.Heads.{head_of, is_head}
use Rattle.memo_texts.specs.Lines.{lines_in, without_mark, without_return}

-- what was read so far: the memos that have all their lines, and the last one, each line of which a
-- line feed ends
pub record ReadingValue : Type 0 where
  pub done : List MemoValue
  pub last : Option MemoValue

-- a memo with all its lines: the line feed behind the last one is none of its bytes
abbrev pub whole : MemoValue → MemoValue
whole memo = record memo { text = take (length memo.text - 1) memo.text }

-- the memos, where no line follows
abbrev pub memos_of : ReadingValue → List MemoValue
memos_of reading = reading.done ++ option_to_list (option_map whole reading.last)

-- a line that begins with four dashes stands for one with a dash less
abbrev pub line_text : List ℕ → List ℕ
line_text bytes = if begins_with (codes "----") bytes then drop 1 bytes else bytes

-- a memo with one more line; with its zero byte a memo has at most 65,500 bytes, as many as with
-- the last line feed
abbrev pub longer : MemoValue → List ℕ → Option MemoValue
longer memo line =
    if nat_lt 65500 (length (memo.text ++ (line ++ 10 ∷ []))) then None
    else Some (record memo { text = memo.text ++ (line ++ 10 ∷ []) })

-- one more memo, and the one before has all its lines
abbrev pub with_memo : ReadingValue → MemoValue → ReadingValue
with_memo reading memo = record { done = memos_of reading; last = Some memo }

-- one more line in the last memo, where there is one
abbrev pub with_text : ReadingValue → List ℕ → Option ReadingValue
with_text reading text =
    option_map (λ memo. record { done = reading.done; last = Some memo })
    (option_and_then (λ memo. longer memo text) reading.last)

-- the bytes of one more line: those of a head, or of a line of the last memo
abbrev pub with_bytes : ReadingValue → List ℕ → Option ReadingValue
with_bytes reading bytes =
    if is_head bytes then option_map (with_memo reading) (head_of bytes)
    else with_text reading (line_text bytes)

-- one more line, where it has its form
unfoldable pub with_line : ReadingValue → List ℕ → Option ReadingValue
with_line reading line = option_and_then (with_bytes reading) (line_bytes (without_return line))

-- the memos that follow, or the fault of a line of which nothing is read
abbrev pub memos_behind : Option ReadingValue
    → (ReadingValue → Result (List MemoValue) ImportFault) → ImportFault
    → Result (List MemoValue) ImportFault
memos_behind None behind fault = Err fault
memos_behind (Some reading) behind fault = behind reading

-- the memos of what was read and these lines, or the first line that is out of its form, with its
-- number and its flaw; lines are counted on from a number
unfoldable pub memos_from : ℕ → ReadingValue → List (List ℕ) → Result (List MemoValue) ImportFault
memos_from number reading [] = Ok (memos_of reading)
memos_from number reading (line ∷ lines) =
    memos_behind (with_line reading line) (λ now. memos_from (suc number) now lines)
    (BadText number (line_flaw reading.last line))

-- the memos of a text, or its first line, from 1, that is out of its form, with its flaw
abbrev pub memos_in : List ℕ → Result (List MemoValue) ImportFault
memos_in text = memos_from 1 (record { done = []; last = None }) (lines_in (without_mark text))
