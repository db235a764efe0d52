use Rattle.std.proofs.Common.{◌≡◌, ◌++◌, string_bytes, drop}
use Rattle.memo_texts.specs.Memos.{lines_from}
use Rattle.memo_texts.proofs.export_lines.push_from.Given as goal

abbrev pub invariant-loop-place : goal.invariant-loop-place
invariant-loop-place l = string_bytes l.text ++ lines_from (drop l.place l.memo) ≡ string_bytes l.initial.text ++ lines_from l.memo
