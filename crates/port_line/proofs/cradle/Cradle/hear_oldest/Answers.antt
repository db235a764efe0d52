use Rattle.std.proofs.Common.{subst}
use Rattle.port_line.specs.Ways.{PutsFront}
use Rattle.port_line.proofs.CradleLaws.{heard_put, lost_first, moves-from}
use Rattle.slp_frames.specs.PacketScan.{scan}
use Rattle.port_line.proofs.cradle.Cradle.hear_oldest.Goals as goal

pub returns-then-is_lost-clause-palm : goal.returns-then-is_lost-clause-palm
returns-then-is_lost-clause-palm g c =
    moves-from c.self.view_is
    (lost_first {hand = c.self.inside.handheld.hand} {coming = c.self.inside.coming} c.in-Some.ensures.first)

pub returns-clause-palm : goal.returns-clause-palm
returns-clause-palm g c =
    moves-from c.self.view_is
    (heard_put {old = c.self.inside.coming} {new = c.put.new.self} c.in-Some.ensures.first c.lent.ensures c.hear.ensures
    (subst (λ s. PutsFront (scan s) c.self.inside.coming.packets c.put.new.self.packets) c.as_slice.ensures.value c.put.ensures.front)
    c.put.ensures.part)
