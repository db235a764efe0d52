use Rattle.line_steps.proofs.ProperLaws.{running_is_proper}
use Rattle.line_steps.proofs.laws.a_running_trace_is_proper.Goals as goal

pub returns : goal.returns
returns c = running_is_proper
