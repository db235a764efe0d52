use Rattle.line_laws.proofs.Changed.{not_proper}
use Rattle.line_laws.proofs.example_laws.a_changed_digit_is_noticed.Goals as goal

pub returns : goal.returns
returns c = not_proper
