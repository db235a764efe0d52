use Rattle.line_steps.proofs.FairLaws.{fair_is_never_down}
use Rattle.line_steps.proofs.laws.a_fair_line_is_never_down.Goals as goal

pub returns : goal.returns
returns c = fair_is_never_down
