use Rattle.line_steps.proofs.CarryingLaws.{of_five, fine, still_apart, tick_step, tick_back}
use Rattle.line_steps.proofs.HaltedLaws.{halted_turned}
use Rattle.line_steps.proofs.HaltingLaws.{err_weaker}
use Rattle.line_steps.proofs.Names.{IsFirst, subst}
use Rattle.line_steps.proofs.TurnLaws.{apart_turned}
use Rattle.line_steps.proofs.StartingLaws.{waits_now}
use Rattle.line_steps.proofs.carrying.wait.Goals as goal

pub returns-in-Desktop-clause-step : goal.returns-in-Desktop-clause-step
returns-in-Desktop-clause-step c =
    let done = c.tick.ensures in
    of_five c.tick.result (tick_step (waits_now c.requires.holds.x_half c.requires.waits)) done.underway done.holds done.less (fine c.tick.result done.x_stays)
    (fine c.tick.result done.y_stays)

pub returns-in-Handheld-clause-step : goal.returns-in-Handheld-clause-step
returns-in-Handheld-clause-step c =
    let done = c.tick-in-Handheld.ensures in
    of_five c.tick-in-Handheld.result (tick_back c.requires.holds.apart (waits_now c.requires.holds.x_half c.requires.waits)) done.underway done.holds done.less
    (fine c.tick-in-Handheld.result done.x_stays) (fine c.tick-in-Handheld.result done.y_stays)

pub returns-in-Desktop-clause-x_place : goal.returns-in-Desktop-clause-x_place
returns-in-Desktop-clause-x_place c = (c.tick.ensures.x_stays.end_is, c.tick.ensures.x_stays.taken_is)

pub returns-in-Desktop-clause-y_place : goal.returns-in-Desktop-clause-y_place
returns-in-Desktop-clause-y_place c = (c.tick.ensures.y_stays.end_is, c.tick.ensures.y_stays.taken_is)

pub returns-in-Handheld-clause-x_place : goal.returns-in-Handheld-clause-x_place
returns-in-Handheld-clause-x_place c = (c.tick-in-Handheld.ensures.y_stays.end_is, c.tick-in-Handheld.ensures.y_stays.taken_is)

pub returns-in-Handheld-clause-y_place : goal.returns-in-Handheld-clause-y_place
returns-in-Handheld-clause-y_place c = (c.tick-in-Handheld.ensures.x_stays.end_is, c.tick-in-Handheld.ensures.x_stays.taken_is)

pub returns-in-Handheld-clause-halted : goal.returns-in-Handheld-clause-halted
returns-in-Handheld-clause-halted c =
    let x = c.args.x.now in
    let y = c.args.y.now in
    let done = c.tick-in-Handheld.ensures in
    let later_x = c.tick-in-Handheld.new.y in
    let later_y = c.tick-in-Handheld.new.x in
    let apart = apart_turned c.requires.holds.apart in
    err_weaker c.tick-in-Handheld.result
    (λ halt it. halted_turned apart (still_apart y x later_y later_x done.x_stays.end_is done.y_stays.end_is apart) it) done.halted

pub returns-in-Desktop-clause-own_first : goal.returns-in-Desktop-clause-own_first
returns-in-Desktop-clause-own_first c is = subst (λ X. IsFirst X c.args.wire.now.frames.items c.tick.new.wire.frames.items) is
    (c.tick.ensures.first c.requires.waits)

pub returns-in-Handheld-clause-other_first : goal.returns-in-Handheld-clause-other_first
returns-in-Handheld-clause-other_first c is waits = subst
    (λ X. IsFirst X c.args.wire.now.frames.items c.tick-in-Handheld.new.wire.frames.items) is (c.tick-in-Handheld.ensures.first waits)
