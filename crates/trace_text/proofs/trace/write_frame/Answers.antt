-- The words of a line, put together from the left.
use Rattle.std.proofs.Common.{◌∙◌}
use Rattle.std.proofs.lemmas.List.{append_assoc}
use Rattle.std.proofs.lemmas.Result.{IfOk-weaker}
use Rattle.trace_text.proofs.trace.write_frame.Goals as goal
use Rattle.trace_text.proofs.trace.write_frame.Goals.{then-frame, else-frame}

pub returns : goal.returns
returns c =
    elim c.if-frame.branch [
      | then-frame w ↦ IfOk-weaker c.format.result _ _ (λ text is. is ∙ simp (
        w.mark-is,
        w.if-frame.true,
        c.end_word-from.ensures,
        c.in_ok-fate.ensures,
        c.in_ok-bytes.ensures,
      ) (simp append_assoc)) c.format.ensures.ok
      | else-frame w ↦ IfOk-weaker c.format.result _ _ (λ text is. is ∙ simp (
        w.mark-is,
        w.if-frame.false,
        c.end_word-from.ensures,
        c.in_ok-fate.ensures,
        c.in_ok-bytes.ensures,
      ) (simp append_assoc)) c.format.ensures.ok
    ]
