use Rattle.front_laws.proofs.FrontLaws.{first-said}
use Rattle.front_laws.proofs.RunLaws.{said-free}
use Rattle.front_laws.proofs.laws.a_session_can_be_said.Goals as goal

pub returns : goal.returns
returns c = record { said = first-said; free = said-free }
