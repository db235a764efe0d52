-- Memos that a database keeps whole.
use Rattle.std.specs.Prelude.{◌≡◌, ◌≤◌, length, None}
use Rattle.palm_records.specs.Strings.{first_zero}
use Rattle.memo_texts.specs.Memos.{IsMemo, MemoValue}

-- an id of 24 bits, a label of at most 15 bytes and a text of at most 65,499, neither with a zero
-- byte
pub record IsKept (memo : MemoValue) : Type 0 where
  pub proper : IsMemo memo
  pub short_label : length memo.label ≤ 15
  pub whole_label : first_zero memo.label ≡ None
  pub short_text : length memo.text ≤ 65499
  pub whole_text : first_zero memo.text ≡ None
