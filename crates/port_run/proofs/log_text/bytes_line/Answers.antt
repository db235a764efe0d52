-- The words of a line, put together from the left.
use Rattle.std.proofs.Common.{◌∙◌}
use Rattle.std.proofs.lemmas.List.{append_assoc}
use Rattle.std.proofs.lemmas.Result.{IfOk-weaker}
use Rattle.port_run.proofs.log_text.bytes_line.Goals as goal

pub returns : goal.returns
returns c = IfOk-weaker c.format.result _ _ (λ text is. is ∙ simp c.in_ok-bytes.ensures (simp append_assoc)) c.format.ensures.ok
