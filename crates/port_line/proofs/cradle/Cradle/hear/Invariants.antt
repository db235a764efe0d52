use Rattle.port_laws.specs.Palms.{MovesOn}
use Rattle.port_line.specs.Cradles.{palm_of}
use Rattle.port_line.proofs.cradle.Cradle.hear.Given as goal

abbrev pub invariant-packet : goal.invariant-packet
invariant-packet g l = MovesOn (palm_of l.fn.self) (palm_of l.self)
