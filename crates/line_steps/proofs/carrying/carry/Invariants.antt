use Rattle.line_steps.proofs.Names.{Advances, CountsTaken, SameMessage, Holds, KeepsRoom, KeepsTalk, RecordsFrames, Underway, work_left}
use Rattle.line_steps.proofs.carrying.carry.Given as goal

abbrev pub invariant-loop : goal.invariant-loop
invariant-loop l =
    Holds l.wire l.x l.y × Underway l.wire l.x l.y × SameMessage l.initial.x l.x × SameMessage l.initial.y l.y
    × (RecordsFrames l.fn.script l.initial.wire l.initial.x l.initial.y → RecordsFrames l.fn.script l.wire l.x l.y) × KeepsTalk l.initial.wire l.initial.x l.initial.y
    l.wire l.x l.y × (CountsTaken l.initial.wire l.initial.x l.initial.y → CountsTaken l.wire l.x l.y)
    × Advances l.initial.wire l.initial.x l.initial.y l.wire l.x l.y
    × KeepsRoom l.initial.wire.frames l.wire.frames

abbrev pub decreases-loop : goal.decreases-loop
decreases-loop l = work_left l.wire l.x l.y
