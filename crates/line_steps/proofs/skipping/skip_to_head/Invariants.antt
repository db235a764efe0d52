use Rattle.line_steps.proofs.Names.{◌-◌, ◌≤◌, length, Holds, MovesCursor, MovesReader, KeepsAll, work_left}
use Rattle.line_steps.proofs.skipping.skip_to_head.Given as goal

abbrev pub invariant-loop-x : goal.invariant-loop-x
invariant-loop-x l = (Holds l.wire l.x l.y × MovesCursor l.initial.x l.x × MovesReader l.initial.y l.y × (l.x.taken ≤ length l.wire.frames.items))
    × (work_left l.wire l.x l.y ≤ work_left l.wire l.initial.x l.initial.y) × KeepsAll l.wire l.initial.x l.initial.y l.x l.y

abbrev pub decreases-loop-x : goal.decreases-loop-x
decreases-loop-x l = length l.wire.frames.items - l.x.taken
