use Rattle.port_laws.proofs.StageLaws.{desk_asks}
use Rattle.port_laws.proofs.laws.a_request_may_begin.Goals as goal

pub returns : goal.returns
returns c = desk_asks
