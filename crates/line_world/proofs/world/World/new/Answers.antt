use Rattle.line_world.proofs.WorldLaws.{world-new}
use Rattle.line_world.proofs.world.World.new.Goals as goal

pub invariant_of-result : goal.invariant_of-result
invariant_of-result g c =
    let new = c.in-Ok.ensures in
    world-new c.requires c.new-in-Ok.ensures new.turn new.handheld new.desktop new.talks new.counted new.frames
