use Rattle.line_steps.proofs.TellsLaws.{turn_tells_all}
use Rattle.line_steps.proofs.laws.a_turn_tells_all_messages.Goals as goal

pub returns : goal.returns
returns c = turn_tells_all
