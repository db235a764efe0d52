use Rattle.port_laws.proofs.StageLaws.{desk_greeted}
use Rattle.port_laws.proofs.laws.an_init_is_no_request.Goals as goal

pub returns : goal.returns
returns c = desk_greeted
