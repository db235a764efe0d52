use Rattle.line_world.proofs.Names.{◌∙◌, sym}
use Rattle.line_world.proofs.FaultLaws.{collected-all, collected-fault, collected-none}
use Rattle.line_world.proofs.stop.last_faults.Goals as goal

pub loop-left-preserved-then-is_fault : goal.loop-left-preserved-then-is_fault
loop-left-preserved-then-is_fault c =
    collected-fault c.loop-left.invariant c.loop-left-test.true c.if-place-gt0.true c.get-frame.ensures (sym c.is_fault.ensures ∙ c.if-is_fault.true)

pub loop-left-preserved : goal.loop-left-preserved
loop-left-preserved c =
    collected-none c.loop-left.invariant c.loop-left-test.true c.get-frame.ensures (sym c.is_fault.ensures ∙ c.if-is_fault.false)

pub returns-else-place-gt0-clause-last : goal.returns-else-place-gt0-clause-last
returns-else-place-gt0-clause-last c many = collected-all c.loop-left.invariant c.if-place-gt0.false
