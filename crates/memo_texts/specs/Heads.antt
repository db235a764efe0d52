-- Head lines as they are read: the lines that are written, and `new` for the id of a record that
-- has none yet.
use Rattle.std.specs.Prelude.{ℕ, ◌+◌, ◌*◌, ◌==◌, ◌&&◌, Bool, true, false, not, List, [], codes, drop, length, nat_lt, slice_index, take, Option, None, Some, if◌then◌else◌}
use Rattle.std.specs.Option.{option_and_then, option_map}
use Rattle.std.specs.Result.{result_ok}
use Rattle.std.specs.Str.{bytes_eq}
use Rattle.hex.specs.Hex.{decode_sized, encode_lower}
use Rattle.memo_texts.specs.ExportHeads.{begins_with, is_doubtful}
use Rattle.memo_texts.specs.Memos.{MemoValue}

-- a head begins with three dashes and no fourth
abbrev pub is_head : List ℕ → Bool
is_head line = begins_with (codes "---") line && not (begins_with (codes "----") line)

-- the number of three bytes, the high one first
abbrev pub number_of : List ℕ → ℕ
number_of bytes = slice_index bytes 0 * 65536 + slice_index bytes 1 * 256 + slice_index bytes 2

-- the number of these bytes, where the digits are those that they are written in
abbrev pub id_of_bytes : List ℕ → List ℕ → Option ℕ
id_of_bytes digits bytes =
    if bytes_eq (encode_lower bytes) digits then Some (number_of bytes) else None

-- the id in six lower-case hexadecimal digits
abbrev pub id_of : List ℕ → Option ℕ
id_of digits = option_and_then (id_of_bytes digits) (result_ok (decode_sized digits 3))

-- the label behind the mark of a private record: none, or a space and the label
abbrev pub marked_label : List ℕ → Option (List ℕ)
marked_label rest =
    if length rest == 0 then Some []
    else if begins_with (codes " ") rest && nat_lt 1 (length rest) then Some (drop 1 rest)
    else None

-- the label without the mark, where a label that could be taken for it has a second space in front
abbrev pub unmarked_label : List ℕ → Option (List ℕ)
unmarked_label rest =
    if begins_with (codes "  ") rest
    then (if is_doubtful (drop 2 rest) then Some (drop 2 rest) else None)
    else marked_label rest

-- what stands behind an id: whether the record is private, and its label
abbrev pub tail_of : List ℕ → Option (Bool × List ℕ)
tail_of rest =
    if begins_with (codes " private") rest
    then option_map (λ label. (true, label)) (marked_label (drop 8 rest))
    else option_map (λ label. (false, label)) (unmarked_label rest)

-- the memo that an id and what stands behind it begin; a label has at most 15 bytes
abbrev pub new_memo : Option ℕ → Option (Bool × List ℕ) → Option MemoValue
new_memo None tail = None
new_memo (Some id) None = None
new_memo (Some id) (Some tail) =
    if nat_lt 15 (length tail.1) then None
    else Some (record { id = id; secret = tail.0; label = tail.1; text = [] })

-- the memo that begins behind `--- `
abbrev pub head_rest : List ℕ → Option MemoValue
head_rest rest =
    if begins_with (codes "new") rest then new_memo (Some 0) (tail_of (drop 3 rest))
    else new_memo (id_of (take 6 rest)) (tail_of (drop 6 rest))

-- the memo, still without a line, that a head begins
unfoldable pub head_of : List ℕ → Option MemoValue
head_of line = if begins_with (codes "--- ") line then head_rest (drop 4 line) else None
