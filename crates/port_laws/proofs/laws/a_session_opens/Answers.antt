use Rattle.port_laws.proofs.StageLaws.{desk_opens}
use Rattle.port_laws.proofs.laws.a_session_opens.Goals as goal

pub returns : goal.returns
returns c = desk_opens
