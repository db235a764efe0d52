-- The words behind a hit, put together from the left.
use Rattle.std.proofs.Common.{◌∙◌}
use Rattle.std.proofs.lemmas.List.{append_assoc}
use Rattle.std.proofs.lemmas.Result.{IfOk-weaker}
use Rattle.trace_text.proofs.trace.fate_words.Goals as goal

pub returns-in_ok-bytes-in-Hit : goal.returns-in_ok-bytes-in-Hit
returns-in_ok-bytes-in-Hit c =
    rw c.in-Hit.is (IfOk-weaker c.format-in-Hit.result _ _ (λ text is. is
    ∙ simp c.in_ok-bytes-in-Hit.ensures (simp append_assoc)) c.format-in-Hit.ensures.ok)
