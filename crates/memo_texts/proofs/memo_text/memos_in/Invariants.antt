use Rattle.std.proofs.Common.{◌≡◌, ◌≤◌, ◌+◌, length}
use Rattle.memo_texts.specs.Lines.{lines_in}
use Rattle.memo_texts.specs.Readings.{memos_from, memos_in}
use Rattle.memo_texts.proofs.memo_text.memos_in.Given as goal

abbrev pub invariant-loop-rest : goal.invariant-loop-rest
invariant-loop-rest l = record {
  memos : memos_from (l.number + 1) l.reading (lines_in l.rest) ≡ memos_in l.text;
  few : l.number + length l.rest ≤ length l.text;
}

abbrev pub decreases-loop-rest : goal.decreases-loop-rest
decreases-loop-rest l = length l.rest
