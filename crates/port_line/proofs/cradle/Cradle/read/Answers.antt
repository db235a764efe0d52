use Rattle.std.proofs.Common.{◌∙◌, refl, ap}
use Rattle.port_laws.proofs.LossLaws.{moves-then}
use Rattle.port_line.proofs.CradleLaws.{gives_behind, gives_nothing, moves-to, moves_to_lost, told_gives, told_moved}
use Rattle.slp_frames.specs.PacketScan.{scan}
use Rattle.port_line.proofs.cradle.Cradle.read.Goals as goal

pub returns-in_err-tick-clause-moves : goal.returns-in_err-tick-clause-moves
returns-in_err-tick-clause-moves g c =
    let first = moves_to_lost {hand = c.self.inside.handheld.hand} {toward = c.self.inside.toward} {was = c.self.inside.coming} {old = c.lose.new.self}
    (moves-to c.self.view_is c.pass.ensures.palm) c.lose.ensures.front c.lose.ensures.part in
    told_moved c.from_residual-in_err-tick.result (moves-then first c.tick.ensures.palm)

pub returns-then-is_empty-clause-gives : goal.returns-then-is_empty-clause-gives
returns-then-is_empty-clause-gives g c =
    let first = moves_to_lost {hand = c.self.inside.handheld.hand} {toward = c.self.inside.toward} {was = c.self.inside.coming} {old = c.lose.new.self}
    (moves-to c.self.view_is c.pass.ensures.palm) c.lose.ensures.front c.lose.ensures.part in
    told_gives (gives_nothing refl (moves-then first c.tick.ensures.palm) (ap scan c.tick.ensures.part ∙ c.is_empty.ensures.part))

pub returns-clause-gives : goal.returns-clause-gives
returns-clause-gives g c =
    told_gives (gives_behind {hand = c.self.inside.handheld.hand} {toward = c.self.inside.toward} {was = c.self.inside.coming} {old = c.lose.new.self}
    {new = c.give.new.self} (moves-to c.self.view_is c.pass.ensures.palm) c.lose.ensures.front c.lose.ensures.part c.give.ensures.gives)
