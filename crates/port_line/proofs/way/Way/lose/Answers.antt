use Rattle.port_line.proofs.WayLaws.{loses-next}
use Rattle.port_line.proofs.way.Way.lose.Goals as goal

pub oldest-preserved : goal.oldest-preserved
oldest-preserved c = loses-next c.oldest.invariant c.pop.ensures.rest
