use Rattle.std.proofs.Common.{◌∙◌, ap}
use Rattle.std.specs.Prelude.{option_and_then}
use Rattle.run_words.specs.Cables.{ported_run_in}
use Rattle.run_words.proofs.cable.ported_run_words.Goals as goal

pub returns-in_err-spoken : goal.returns-in_err-spoken
returns-in_err-spoken c = rw c.from_residual.ensures (ap (option_and_then (ported_run_in c.args.now)) c.in_err-spoken.ensures)

pub returns : goal.returns
returns c = c.ported_run_in.ensures ∙ ap (option_and_then (ported_run_in c.args.now)) c.in_ok-spoken.ensures
