use Rattle.port_laws.proofs.LossLaws.{moves-then}
use Rattle.port_line.proofs.cradle.Cradle.pass.Goals as goal

pub returns-clause-palm : goal.returns-clause-palm
returns-clause-palm g c = moves-then c.tick.ensures.palm c.hear-2.ensures.palm
