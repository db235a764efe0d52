use Rattle.port_laws.proofs.MoveLaws.{moves_on}
use Rattle.port_laws.proofs.laws.a_palm_stands.Goals as goal

pub returns : goal.returns
returns c = moves_on
