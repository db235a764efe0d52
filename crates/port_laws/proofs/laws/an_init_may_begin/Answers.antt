use Rattle.port_laws.proofs.StageLaws.{desk_greets}
use Rattle.port_laws.proofs.laws.an_init_may_begin.Goals as goal

pub returns : goal.returns
returns c = desk_greets
