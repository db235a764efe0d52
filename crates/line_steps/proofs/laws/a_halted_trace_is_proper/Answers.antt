use Rattle.line_steps.proofs.ProperLaws.{halted_is_proper}
use Rattle.line_steps.proofs.laws.a_halted_trace_is_proper.Goals as goal

pub returns : goal.returns
returns c = halted_is_proper
