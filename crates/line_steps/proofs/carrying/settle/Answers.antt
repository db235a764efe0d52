use Rattle.line_steps.proofs.Names.{sym, ap, ◌∙◌, is_some, err_from_is_err_and, Err, Bool, arith}
use Rattle.line_steps.proofs.RoomLaws.{keeps_more, room_behind}
use Rattle.line_steps.proofs.HaltedLaws.{halted_behind}
use Rattle.line_steps.proofs.CarryingLaws.{same_refl, same_trans, taken-turn, taken-settled}
use Rattle.line_steps.proofs.TakingLaws.{some_waits, waits_not}
use Rattle.line_steps.proofs.TurnLaws.{settled_holds, settled_turned}
use Rattle.line_steps.proofs.carrying.settle.Goals as goal

pub loop-wire-init : goal.loop-wire-init
loop-wire-init c = (
  settled_holds (settled_turned c.requires.turn.settled),
  taken-turn c.requires.turn c.requires.waits,
  same_refl,
  same_refl,
  λ was. was,
  λ talk talks. talks,
  λ was. was,
  omega arith,
)

pub returns-then-is_none-clause-turn : goal.returns-then-is_none-clause-turn
returns-then-is_none-clause-turn c =
    let idle = waits_not c.loop-wire.x.sender (ap is_some (sym c.current.ensures.piece) ∙ c.if-is_none.ensures) in
    taken-settled c.loop-wire.invariant.0 c.loop-wire.invariant.1 idle

pub step-requires-clause-waits : goal.step-requires-clause-waits
step-requires-clause-waits c = some_waits c.loop-wire.x.sender (ap is_some (sym c.current.ensures.piece) ∙ c.if-is_none.ensures)

pub loop-wire-preserved : goal.loop-wire-preserved
loop-wire-preserved c =
    let step = c.in_ok-step.ensures.step in (
      step.holds,
      step.taken c.loop-wire.invariant.1,
      same_trans c.loop-wire.invariant.2 step.x_same,
      same_trans c.loop-wire.invariant.3 step.y_same,
      λ was. c.step.ensures.recorded (c.loop-wire.invariant.4 was),
      λ talk talks. step.talks talk (c.loop-wire.invariant.5 talk talks),
      λ was. c.step.ensures.counted (c.loop-wire.invariant.6 was),
      keeps_more c.loop-wire.invariant.7 c.step.ensures.room.0,
    )

pub returns-in_err-step-clause-recorded : goal.returns-in_err-step-clause-recorded
returns-in_err-step-clause-recorded c = λ was. c.step.ensures.recorded (c.loop-wire.invariant.4 was)

pub returns-in_err-step-clause-halted : goal.returns-in_err-step-clause-halted
returns-in_err-step-clause-halted c =
    let p = err_from_is_err_and c.from_residual.result c.from_residual.ensures.1 in
    rw (p.1, p.2) (halted_behind c.loop-wire.invariant.2.end_is c.loop-wire.invariant.3.end_is c.loop-wire.invariant.5 c.in_err-step.ensures.halted)

pub returns-in_err-step-clause-counted : goal.returns-in_err-step-clause-counted
returns-in_err-step-clause-counted c = λ was. c.step.ensures.counted (c.loop-wire.invariant.6 was)

pub returns-in_err-step-clause-room : goal.returns-in_err-step-clause-room
returns-in_err-step-clause-room c =
    let p = err_from_is_err_and c.from_residual.result c.from_residual.ensures.1 in
    rw (p.1, p.2) (room_behind {A = Bool} (Err c.in_err-step.field-0.0)
    c.args.wire.now.frames c.loop-wire.wire.frames c.step.new.wire.frames c.loop-wire.invariant.7 c.in_err-step.ensures.room)

pub returns-then-is_none-clause-room : goal.returns-then-is_none-clause-room
returns-then-is_none-clause-room c = (c.loop-wire.invariant.7, tt)
