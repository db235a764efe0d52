use Rattle.line_steps.proofs.TellsLaws.{halted_tells}
use Rattle.line_steps.proofs.laws.a_halted_trace_tells_its_messages.Goals as goal

pub returns : goal.returns
returns c = halted_tells
