use Rattle.std.proofs.Common.{arith, ◌≡◌, ◌∙◌, ◌+◌, ap, sym, refl, inr, drop, drop_of_length-le, length, []}
use Rattle.memo_texts.specs.Databases.{labels_from, with_label}
use Rattle.memo_texts.proofs.LabelLaws.{labels_from-drop, labels_from-nil, labels_from_more}
use Rattle.memo_texts.proofs.category.labels_of.Goals as goal

pub loop-memo-preserved : goal.loop-memo-preserved
loop-memo-preserved c =
    let item = c.memo-item.result in
    let held = c.loop-memo.labels.items in
    let grown = c.in_ok-push_label.ensures ∙ ap (with_label held) c.label.ensures.label in
    record {
      labels = labels_from-drop held _ c.args.memos.now c.loop-memo.memo-index item (omega arith) c.memo-item.is grown ∙ c.loop-memo.invariant.labels;
      few = omega arith;
    }

pub returns-then-len-gt-MOST_LABELS-clause-fault : goal.returns-then-len-gt-MOST_LABELS-clause-fault
returns-then-len-gt-MOST_LABELS-clause-fault c =
    let item = c.memo-item.result in
    let held = c.loop-memo.labels.items in
    let more = c.push_label.new.labels.items in
    let grown = c.in_ok-push_label.ensures ∙ ap (with_label held) c.label.ensures.label in
    let all = labels_from-drop held more c.args.memos.now c.loop-memo.memo-index item (omega arith) c.memo-item.is grown ∙ c.loop-memo.invariant.labels in
    let size = labels_from_more more (drop (c.loop-memo.memo-index + 1) c.args.memos.now) in
    inr (refl, omega (arith, ap length all, size))

pub returns-clause-labels : goal.returns-clause-labels
returns-clause-labels c =
    let held = c.loop-memo.labels.items in
    let none : drop c.loop-memo.memo-index c.args.memos.now ≡ [] = drop_of_length-le c.args.memos.now (omega arith) in
    (sym (ap (labels_from held) none ∙ labels_from-nil held) ∙ c.loop-memo.invariant.labels, c.loop-memo.invariant.few)
