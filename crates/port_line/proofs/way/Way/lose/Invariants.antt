use Rattle.port_line.specs.Ways.{LosesFront}
use Rattle.port_line.proofs.way.Way.lose.Given as goal

abbrev pub invariant-oldest : goal.invariant-oldest
invariant-oldest l = LosesFront l.fn.self l.self
