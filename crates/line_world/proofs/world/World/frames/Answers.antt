use Rattle.line_world.proofs.Names.{subst, fate_by, IsProper, said_in}
use Rattle.line_world.proofs.WorldLaws.{world-proper}
use Rattle.line_world.proofs.world.World.frames.Goals as goal

pub returns-clause-proper : goal.returns-clause-proper
returns-clause-proper g c =
    let w = c.self.inside in
    subst (λ v. IsProper (fate_by v.script) (said_in v.log) v.frames) c.self.view_is
    (world-proper c.self.invariant.recorded c.self.invariant.told)
