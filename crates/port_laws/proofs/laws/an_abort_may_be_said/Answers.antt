use Rattle.port_laws.proofs.DeskLaws.{desk_aborts}
use Rattle.port_laws.proofs.laws.an_abort_may_be_said.Goals as goal

pub returns : goal.returns
returns c = desk_aborts
