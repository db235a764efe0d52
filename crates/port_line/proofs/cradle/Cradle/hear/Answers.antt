use Rattle.port_laws.proofs.LossLaws.{moves-then}
use Rattle.port_line.proofs.cradle.Cradle.hear.Goals as goal

pub returns-in_err-hear_oldest-clause-palm : goal.returns-in_err-hear_oldest-clause-palm
returns-in_err-hear_oldest-clause-palm g c = moves-then c.packet.invariant c.hear_oldest.ensures.palm

pub packet-preserved : goal.packet-preserved
packet-preserved g c = moves-then c.packet.invariant c.hear_oldest.ensures.palm
