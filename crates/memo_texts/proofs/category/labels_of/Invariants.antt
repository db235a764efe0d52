use Rattle.std.proofs.Common.{◌≡◌, ◌≤◌, length, drop}
use Rattle.memo_texts.specs.Databases.{labels_from, labels_of}
use Rattle.memo_texts.proofs.category.labels_of.Given as goal

abbrev pub invariant-loop-memo : goal.invariant-loop-memo
invariant-loop-memo l = record {
  labels : labels_from l.labels.items (drop l.memo-index l.memos) ≡ labels_of l.memos;
  few : length l.labels.items ≤ 15;
}
