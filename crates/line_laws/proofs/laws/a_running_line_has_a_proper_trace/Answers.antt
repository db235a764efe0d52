use Rattle.line_laws.proofs.PromiseLaws.{has_proper_trace}
use Rattle.line_laws.proofs.laws.a_running_line_has_a_proper_trace.Goals as goal

pub returns : goal.returns
returns c = has_proper_trace
