use Rattle.line_steps.proofs.Names.{err_from_is_err_and, Err, Bool}
use Rattle.line_steps.proofs.AdvancingLaws.{advances_more, falls_short}
use Rattle.line_steps.proofs.RoomLaws.{keeps_more, room_behind}
use Rattle.line_steps.proofs.HaltedLaws.{halted_behind}
use Rattle.line_steps.proofs.CarryingLaws.{not_over, is_over, same_trans, underway-waits}
use Rattle.line_steps.proofs.carrying.carry.Goals as goal

pub step-requires-clause-waits : goal.step-requires-clause-waits
step-requires-clause-waits c = underway-waits c.loop.invariant.0 c.loop.invariant.1

pub returns-then-branch-clause-carried : goal.returns-then-branch-clause-carried
returns-then-branch-clause-carried c = is_over c.if-branch.true (c.in_ok-step.ensures.step.underway c.loop.invariant.1)

pub loop-preserved : goal.loop-preserved
loop-preserved c =
    let step = c.in_ok-step.ensures.step in
    let on = not_over c.if-branch.false (step.underway c.loop.invariant.1) in (
      step.holds,
      on,
      same_trans c.loop.invariant.2 step.x_same,
      same_trans c.loop.invariant.3 step.y_same,
      λ was. c.step.ensures.recorded (c.loop.invariant.4 was),
      λ talk talks. step.talks talk (c.loop.invariant.5 talk talks),
      λ was. c.step.ensures.counted (c.loop.invariant.6 was),
      advances_more c.loop.invariant.7 c.step.ensures.advances,
      keeps_more c.loop.invariant.8 c.step.ensures.room.0,
    )

pub returns-in_err-step-clause-recorded : goal.returns-in_err-step-clause-recorded
returns-in_err-step-clause-recorded c = λ was. c.step.ensures.recorded (c.loop.invariant.4 was)

pub returns-then-branch-clause-recorded : goal.returns-then-branch-clause-recorded
returns-then-branch-clause-recorded c = λ was. c.step.ensures.recorded (c.loop.invariant.4 was)

pub returns-then-branch-clause-talks : goal.returns-then-branch-clause-talks
returns-then-branch-clause-talks c = λ talk talks. c.in_ok-step.ensures.step.talks talk (c.loop.invariant.5 talk talks)

pub returns-in_err-step-clause-halted : goal.returns-in_err-step-clause-halted
returns-in_err-step-clause-halted c =
    let p = err_from_is_err_and c.from_residual.result c.from_residual.ensures.1 in
    rw (p.1, p.2) (halted_behind c.loop.invariant.2.end_is c.loop.invariant.3.end_is c.loop.invariant.5 c.in_err-step.ensures.halted)

pub returns-in_err-step-clause-counted : goal.returns-in_err-step-clause-counted
returns-in_err-step-clause-counted c = λ was. c.step.ensures.counted (c.loop.invariant.6 was)

pub returns-then-branch-clause-counted : goal.returns-then-branch-clause-counted
returns-then-branch-clause-counted c = λ was. c.step.ensures.counted (c.loop.invariant.6 was)

pub returns-in_err-step-clause-advances : goal.returns-in_err-step-clause-advances
returns-in_err-step-clause-advances c = advances_more c.loop.invariant.7 c.step.ensures.advances

pub returns-then-branch-clause-advances : goal.returns-then-branch-clause-advances
returns-then-branch-clause-advances c = advances_more c.loop.invariant.7 c.step.ensures.advances

pub returns-in_err-step-clause-short : goal.returns-in_err-step-clause-short
returns-in_err-step-clause-short c =
    let p = err_from_is_err_and c.from_residual.result c.from_residual.ensures.1 in
    let halt = c.in_err-step.field-0.0 in
    rw (p.1, p.2) (λ talk talks. falls_short halt c.step.new.wire c.step.new.x (c.loop.invariant.5 talk talks) c.loop.invariant.1
    c.in_err-step.ensures.halted.x_end c.in_err-step.ensures.still)

pub returns-in_err-step-clause-room : goal.returns-in_err-step-clause-room
returns-in_err-step-clause-room c =
    let p = err_from_is_err_and c.from_residual.result c.from_residual.ensures.1 in
    rw (p.1, p.2) (room_behind {A = Bool} (Err c.in_err-step.field-0.0)
    c.args.wire.now.frames c.loop.wire.frames c.step.new.wire.frames c.loop.invariant.8 c.in_err-step.ensures.room)

pub returns-then-branch-clause-room : goal.returns-then-branch-clause-room
returns-then-branch-clause-room c = (
  keeps_more c.loop.invariant.8 c.step.ensures.room.0,
  tt,
)
