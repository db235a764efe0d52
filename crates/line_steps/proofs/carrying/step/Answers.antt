use Rattle.line_steps.proofs.CountingLaws.{counted_turned}
use Rattle.line_steps.proofs.Names.{ap, ◌∙◌, arith, IfOk-weaker, StepTo}
use Rattle.line_steps.proofs.AdvancingLaws.{advances_from, where_weaker}
use Rattle.line_steps.proofs.CarryingLaws.{Skipped, skipped-steps, skipped-waits, skipped-talks, skipped-took, skipped-recorded}
use Rattle.line_steps.proofs.StartingLaws.{waits_now}
use Rattle.line_steps.proofs.HaltedLaws.{halted_behind}
use Rattle.line_steps.proofs.HaltingLaws.{err_weaker}
use Rattle.line_steps.proofs.TurnLaws.{holds_turned}
use Rattle.line_steps.proofs.carrying.step.Goals as goal

pub skip_to_head-requires-2 : goal.skip_to_head-requires-2
skip_to_head-requires-2 c = holds_turned c.skip_to_head.ensures.holds

pub deliver-requires-clause-holds : goal.deliver-requires-clause-holds
deliver-requires-clause-holds c = holds_turned c.skip_to_head-2.ensures.holds

pub deliver-requires-clause-waits : goal.deliver-requires-clause-waits
deliver-requires-clause-waits c = skipped-waits c.args.x.now c.skip_to_head.ensures.moved c.skip_to_head-2.ensures.read c.requires.waits

pub returns-clause-step : goal.returns-clause-step
returns-clause-step c =
    let it : Skipped c.args.wire.now c.args.x.now c.args.y.now c.skip_to_head.new.x c.skip_to_head.new.y c.skip_to_head-2.new.y c.skip_to_head-2.new.x =
    record {
      x_moved = c.skip_to_head.ensures.moved;
      y_read = c.skip_to_head.ensures.read;
      y_moved = c.skip_to_head-2.ensures.moved;
      x_read = c.skip_to_head-2.ensures.read;
      first = c.skip_to_head.ensures.left;
      second = c.skip_to_head-2.ensures.left;
      talks = skipped-talks c.args.wire.now c.args.x.now c.args.y.now c.requires.holds.apart c.skip_to_head.ensures.moved c.skip_to_head.ensures.read
          c.skip_to_head-2.ensures.moved c.skip_to_head-2.ensures.read c.skip_to_head.ensures.keeps.talks c.skip_to_head-2.ensures.keeps.talks;
    } in
    IfOk-weaker c.deliver.result (λ whole. StepTo whole c.args.wire.now c.skip_to_head-2.new.y c.skip_to_head-2.new.x c.deliver.new.wire
    c.deliver.new.x c.deliver.new.y)
    (λ whole. StepTo whole c.args.wire.now c.args.x.now c.args.y.now c.deliver.new.wire c.deliver.new.x c.deliver.new.y)
    (λ whole step. skipped-steps it (waits_now c.requires.holds.x_half c.requires.waits) step) c.deliver.ensures.step

pub returns-clause-recorded : goal.returns-clause-recorded
returns-clause-recorded c = λ was. c.deliver.ensures.recorded
    (skipped-recorded c.requires.holds.apart c.skip_to_head.ensures.moved c.skip_to_head.ensures.read
    c.skip_to_head-2.ensures.moved c.skip_to_head-2.ensures.read
    c.skip_to_head.ensures.keeps c.skip_to_head-2.ensures.keeps was)

pub returns-clause-halted : goal.returns-clause-halted
returns-clause-halted c =
    let wire = c.args.wire.now in
    let x = c.args.x.now in
    let y = c.args.y.now in
    let x2 = c.skip_to_head-2.new.y in
    let y2 = c.skip_to_head-2.new.x in
    let new = c.deliver.new.wire in
    let keeps = skipped-talks wire x y c.requires.holds.apart c.skip_to_head.ensures.moved c.skip_to_head.ensures.read c.skip_to_head-2.ensures.moved
    c.skip_to_head-2.ensures.read c.skip_to_head.ensures.keeps.talks c.skip_to_head-2.ensures.keeps.talks in
    err_weaker c.deliver.result
    (λ halt it. halted_behind (ap (λ h. h.end) c.skip_to_head-2.ensures.read ∙ ap (λ h. h.end) c.skip_to_head.ensures.moved)
    (ap (λ h. h.end) c.skip_to_head-2.ensures.moved ∙ ap (λ h. h.end) c.skip_to_head.ensures.read) keeps it) c.deliver.ensures.halted

pub returns-clause-counted : goal.returns-clause-counted
returns-clause-counted c =
    λ was. c.deliver.ensures.counted (counted_turned (c.skip_to_head-2.ensures.keeps.counted (counted_turned (c.skip_to_head.ensures.keeps.counted was))))

pub returns-clause-advances : goal.returns-clause-advances
returns-clause-advances c =
    let first = c.skip_to_head.ensures in
    let second = c.skip_to_head-2.ensures in
    let took = skipped-took first.moved first.read second.moved second.read first.keeps second.keeps in
    advances_from took c.deliver.ensures.advances

pub returns-clause-still : goal.returns-clause-still
returns-clause-still c =
    let first = c.skip_to_head.ensures in
    let second = c.skip_to_head-2.ensures in
    let took = skipped-took first.moved first.read second.moved second.read first.keeps second.keeps in
    err_weaker c.deliver.result
    (λ halt still. where_weaker halt (λ few. omega (arith, few, took.0)) still) c.deliver.ensures.still
