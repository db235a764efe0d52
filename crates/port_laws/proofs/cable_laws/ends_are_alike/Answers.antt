use Rattle.port_laws.proofs.MomentLaws.{turned}
use Rattle.port_laws.proofs.cable_laws.ends_are_alike.Goals as goal

pub returns : goal.returns
returns c = turned
