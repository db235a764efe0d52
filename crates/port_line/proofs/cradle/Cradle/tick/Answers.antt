use Rattle.std.proofs.Common.{subst}
use Rattle.port_line.specs.Ways.{PutsFront}
use Rattle.port_line.proofs.CradleLaws.{moves-from, ticked_put}
use Rattle.slp_frames.specs.PacketScan.{scan}
use Rattle.port_line.proofs.cradle.Cradle.tick.Goals as goal

pub returns-clause-palm : goal.returns-clause-palm
returns-clause-palm g c =
    moves-from c.self.view_is
    (ticked_put {toward = c.self.inside.toward} {old = c.self.inside.coming} {new = c.put.new.self} c.tick.ensures
    (subst (λ s. PutsFront (scan s) c.self.inside.coming.packets c.put.new.self.packets) c.as_slice.ensures.value c.put.ensures.front)
    c.put.ensures.part)
