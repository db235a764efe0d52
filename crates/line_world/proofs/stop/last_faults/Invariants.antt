use Rattle.line_world.proofs.FaultLaws.{Collected}
use Rattle.line_world.proofs.stop.last_faults.Given as goal

abbrev pub invariant-loop-left : goal.invariant-loop-left
invariant-loop-left l = Collected l.numbers l.place l.left l.frames.items

abbrev pub decreases-loop-left : goal.decreases-loop-left
decreases-loop-left l = l.left
