use Rattle.std.proofs.Common.{◌∙◌, sym, arith}
use Rattle.port_run.proofs.LogLaws.{take-short}
use Rattle.port_run.proofs.log_text.short_body.Goals as goal

pub returns-in-None : goal.returns-in-None
returns-in-None c = c.body_of-in-None.ensures ∙ sym (take-short 1028 c.args.bytes.now (grind arith))
