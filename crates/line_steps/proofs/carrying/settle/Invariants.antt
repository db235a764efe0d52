use Rattle.line_steps.proofs.Names.{CountsTaken, SameMessage, Holds, AllTaken, KeepsRoom, KeepsTalk, RecordsFrames, work_left}
use Rattle.line_steps.proofs.carrying.settle.Given as goal

abbrev pub invariant-loop-wire : goal.invariant-loop-wire
invariant-loop-wire l = Holds l.wire l.x l.y × AllTaken l.wire l.x l.y × SameMessage l.initial.x l.x × SameMessage l.initial.y l.y
    × (RecordsFrames l.fn.script l.initial.wire l.initial.x l.initial.y → RecordsFrames l.fn.script l.wire l.x l.y) × KeepsTalk l.initial.wire l.initial.x l.initial.y
    l.wire l.x l.y × (CountsTaken l.initial.wire l.initial.x l.initial.y → CountsTaken l.wire l.x l.y)
    × KeepsRoom l.initial.wire.frames l.wire.frames

abbrev pub decreases-loop-wire : goal.decreases-loop-wire
decreases-loop-wire l = work_left l.wire l.x l.y
