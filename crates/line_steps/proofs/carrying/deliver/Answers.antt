use Rattle.line_steps.proofs.AdvancingLaws.{advances_own, advances_turned, advances_two, always_where, stands_two, up_where}
use Rattle.line_steps.proofs.CountingLaws.{counted_own, counted_other, counted_two}
use Rattle.line_steps.proofs.Names.{◌≡◌, ◌+◌, length, ap, ◌∙◌, arith, fate_by, err_from_is_err_and}
use Rattle.line_steps.proofs.RecordedLaws.{recorded_own, recorded_other, recorded_two}
use Rattle.line_steps.proofs.CarryingLaws.{own_step, other_step, stays_same, moved_same, still_apart}
use Rattle.line_steps.proofs.HaltedLaws.{halted_turned}
use Rattle.line_steps.proofs.StartingLaws.{waits_now}
use Rattle.line_steps.proofs.TurnLaws.{apart_turned, holds_turned}
use Rattle.line_steps.proofs.carrying.deliver.Goals as goal

pub take_next-requires-in-Other-clause-holds : goal.take_next-requires-in-Other-clause-holds
take_next-requires-in-Other-clause-holds c = holds_turned c.requires.holds

pub returns-in_ok-heard-in-Own-clause-step : goal.returns-in_ok-heard-in-Own-clause-step
returns-in_ok-heard-in-Own-clause-step c =
    let took = c.in_ok-heard-in-Own.ensures in
    own_step c.is_whole.ensures c.requires.holds c.requires.waits took.underway took.turn took.holds took.less took.moved (stays_same took.stays)

pub returns-in_ok-take_next-in-Other-clause-step : goal.returns-in_ok-take_next-in-Other-clause-step
returns-in_ok-take_next-in-Other-clause-step c =
    let took = c.in_ok-take_next-in-Other.ensures in
    other_step c.requires.holds.apart (waits_now c.requires.holds.x_half c.requires.waits) took.underway took.holds took.less
    (stays_same took.stays) (moved_same took.moved)

pub returns-in_err-heard-in-Own-clause-recorded : goal.returns-in_err-heard-in-Own-clause-recorded
returns-in_err-heard-in-Own-clause-recorded c =
    let size : c.len.result ≡ length c.args.wire.now.frames.items = omega (arith, c.len.ensures.count) in
    let took = c.take_next.ensures in
    recorded_own c.requires.holds c.in-Own.ensures.0
    (c.fate-fate.ensures ∙ ap (λ n. fate_by c.args.script.now (n + 1)) size) took.adds took.moved took.stays

pub returns-in_ok-heard-in-Own-clause-recorded : goal.returns-in_ok-heard-in-Own-clause-recorded
returns-in_ok-heard-in-Own-clause-recorded c =
    let size : c.len.result ≡ length c.args.wire.now.frames.items = omega (arith, c.len.ensures.count) in
    let took = c.take_next.ensures in
    recorded_own c.requires.holds c.in-Own.ensures.0
    (c.fate-fate.ensures ∙ ap (λ n. fate_by c.args.script.now (n + 1)) size) took.adds took.moved took.stays

pub returns-in_err-take_next-in-Other-clause-recorded : goal.returns-in_err-take_next-in-Other-clause-recorded
returns-in_err-take_next-in-Other-clause-recorded c =
    let size : c.len.result ≡ length c.args.wire.now.frames.items = omega (arith, c.len.ensures.count) in
    let took = c.take_next-in-Other.ensures in
    recorded_other (holds_turned c.requires.holds) c.in-Other.ensures.0
    (c.fate-fate.ensures ∙ ap (λ n. fate_by c.args.script.now (n + 1)) size) took.adds took.moved took.stays

pub returns-in_ok-take_next-in-Other-clause-recorded : goal.returns-in_ok-take_next-in-Other-clause-recorded
returns-in_ok-take_next-in-Other-clause-recorded c =
    let size : c.len.result ≡ length c.args.wire.now.frames.items = omega (arith, c.len.ensures.count) in
    let took = c.take_next-in-Other.ensures in
    recorded_other (holds_turned c.requires.holds) c.in-Other.ensures.0
    (c.fate-fate.ensures ∙ ap (λ n. fate_by c.args.script.now (n + 1)) size) took.adds took.moved took.stays

pub returns-in_err-wait-in-Nothing-clause-recorded : goal.returns-in_err-wait-in-Nothing-clause-recorded
returns-in_err-wait-in-Nothing-clause-recorded c =
    let size : c.len.result ≡ length c.args.wire.now.frames.items = omega (arith, c.len.ensures.count) in
    recorded_two c.requires.holds
    (c.fate-fate.ensures ∙ ap (λ n. fate_by c.args.script.now (n + 1)) size)
    (c.fate-other.ensures ∙ ap (λ n. fate_by c.args.script.now (n + 1 + 1)) size) c.wait.ensures.adds
    c.wait.ensures.x_place c.wait.ensures.y_place

pub returns-in_ok-wait-in-Nothing-clause-recorded : goal.returns-in_ok-wait-in-Nothing-clause-recorded
returns-in_ok-wait-in-Nothing-clause-recorded c =
    let size : c.len.result ≡ length c.args.wire.now.frames.items = omega (arith, c.len.ensures.count) in
    recorded_two c.requires.holds
    (c.fate-fate.ensures ∙ ap (λ n. fate_by c.args.script.now (n + 1)) size)
    (c.fate-other.ensures ∙ ap (λ n. fate_by c.args.script.now (n + 1 + 1)) size) c.wait.ensures.adds
    c.wait.ensures.x_place c.wait.ensures.y_place

pub returns-in_err-heard-in-Own-clause-halted : goal.returns-in_err-heard-in-Own-clause-halted
returns-in_err-heard-in-Own-clause-halted c =
    let p = err_from_is_err_and c.from_residual.result c.from_residual.ensures.1 in
    rw (p.1, p.2) c.in_err-heard-in-Own.ensures.halted

pub returns-in_err-take_next-in-Other-clause-halted : goal.returns-in_err-take_next-in-Other-clause-halted
returns-in_err-take_next-in-Other-clause-halted c =
    let x = c.args.x.now in
    let y = c.args.y.now in
    let took = c.take_next-in-Other.ensures in
    let later_x = c.take_next-in-Other.new.y in
    let later_y = c.take_next-in-Other.new.x in
    let apart = apart_turned c.requires.holds.apart in
    let p = err_from_is_err_and c.from_residual-in_err-take_next-in-Other.result c.from_residual-in_err-take_next-in-Other.ensures.1 in
    rw (p.1, p.2) (halted_turned apart
    (still_apart y x later_y later_x (ap (λ h. h.end) took.moved) took.stays.end_is apart) c.in_err-take_next-in-Other.ensures.halted)

pub returns-in_err-wait-in-Nothing-clause-halted : goal.returns-in_err-wait-in-Nothing-clause-halted
returns-in_err-wait-in-Nothing-clause-halted c =
    let p = err_from_is_err_and c.from_residual-in_err-wait-in-Nothing.result c.from_residual-in_err-wait-in-Nothing.ensures.1 in
    rw (p.1, p.2) c.in_err-wait-in-Nothing.ensures.halted

pub returns-in_err-heard-in-Own-clause-counted : goal.returns-in_err-heard-in-Own-clause-counted
returns-in_err-heard-in-Own-clause-counted c =
    let took = c.take_next.ensures in
    counted_own c.requires.holds c.in-Own.ensures.0 took.adds took.moved took.stays took.lands

pub returns-in_ok-heard-in-Own-clause-counted : goal.returns-in_ok-heard-in-Own-clause-counted
returns-in_ok-heard-in-Own-clause-counted c =
    let took = c.take_next.ensures in
    counted_own c.requires.holds c.in-Own.ensures.0 took.adds took.moved took.stays took.lands

pub returns-in_err-take_next-in-Other-clause-counted : goal.returns-in_err-take_next-in-Other-clause-counted
returns-in_err-take_next-in-Other-clause-counted c =
    let took = c.take_next-in-Other.ensures in
    counted_other (holds_turned c.requires.holds) c.in-Other.ensures.0
    took.adds took.moved took.stays took.lands

pub returns-in_ok-take_next-in-Other-clause-counted : goal.returns-in_ok-take_next-in-Other-clause-counted
returns-in_ok-take_next-in-Other-clause-counted c =
    let took = c.take_next-in-Other.ensures in
    counted_other (holds_turned c.requires.holds) c.in-Other.ensures.0
    took.adds took.moved took.stays took.lands

pub returns-in_err-wait-in-Nothing-clause-counted : goal.returns-in_err-wait-in-Nothing-clause-counted
returns-in_err-wait-in-Nothing-clause-counted c =
    counted_two c.requires.holds
    c.wait.ensures.adds c.wait.ensures.x_place c.wait.ensures.y_place c.wait.ensures.x_reader c.wait.ensures.y_reader

pub returns-in_ok-wait-in-Nothing-clause-counted : goal.returns-in_ok-wait-in-Nothing-clause-counted
returns-in_ok-wait-in-Nothing-clause-counted c =
    counted_two c.requires.holds
    c.wait.ensures.adds c.wait.ensures.x_place c.wait.ensures.y_place c.wait.ensures.x_reader c.wait.ensures.y_reader

pub returns-in_err-heard-in-Own-clause-advances : goal.returns-in_err-heard-in-Own-clause-advances
returns-in_err-heard-in-Own-clause-advances c =
    let took = c.take_next.ensures in
    advances_own c.requires.holds c.in-Own.ensures.0 took.adds took.moved took.stays

pub returns-in_ok-heard-in-Own-clause-advances : goal.returns-in_ok-heard-in-Own-clause-advances
returns-in_ok-heard-in-Own-clause-advances c =
    let took = c.take_next.ensures in
    advances_own c.requires.holds c.in-Own.ensures.0 took.adds took.moved took.stays

pub returns-in_err-take_next-in-Other-clause-advances : goal.returns-in_err-take_next-in-Other-clause-advances
returns-in_err-take_next-in-Other-clause-advances c =
    let took = c.take_next-in-Other.ensures in
    advances_turned (advances_own (holds_turned c.requires.holds) c.in-Other.ensures.0 took.adds took.moved took.stays)

pub returns-in_ok-take_next-in-Other-clause-advances : goal.returns-in_ok-take_next-in-Other-clause-advances
returns-in_ok-take_next-in-Other-clause-advances c =
    let took = c.take_next-in-Other.ensures in
    advances_turned (advances_own (holds_turned c.requires.holds) c.in-Other.ensures.0 took.adds took.moved took.stays)

pub returns-in_err-wait-in-Nothing-clause-advances : goal.returns-in_err-wait-in-Nothing-clause-advances
returns-in_err-wait-in-Nothing-clause-advances c =
    let waited = c.wait.ensures in
    advances_two c.requires.holds waited.adds waited.x_place waited.y_place

pub returns-in_ok-wait-in-Nothing-clause-advances : goal.returns-in_ok-wait-in-Nothing-clause-advances
returns-in_ok-wait-in-Nothing-clause-advances c =
    let waited = c.wait.ensures in
    advances_two c.requires.holds waited.adds waited.x_place waited.y_place

pub returns-in_err-heard-in-Own-clause-still : goal.returns-in_err-heard-in-Own-clause-still
returns-in_err-heard-in-Own-clause-still c =
    let p = err_from_is_err_and c.from_residual.result c.from_residual.ensures.1 in
    rw (p.1, p.2) (up_where c.in_err-heard-in-Own.field-0.0 _ c.in_err-heard-in-Own.ensures.up)

pub returns-in_err-take_next-in-Other-clause-still : goal.returns-in_err-take_next-in-Other-clause-still
returns-in_err-take_next-in-Other-clause-still c =
    let p = err_from_is_err_and c.from_residual-in_err-take_next-in-Other.result c.from_residual-in_err-take_next-in-Other.ensures.1 in
    rw (p.1, p.2) (up_where c.in_err-take_next-in-Other.field-0.0 _ c.in_err-take_next-in-Other.ensures.up)

pub returns-in_err-wait-in-Nothing-clause-still : goal.returns-in_err-wait-in-Nothing-clause-still
returns-in_err-wait-in-Nothing-clause-still c =
    let p = err_from_is_err_and c.from_residual-in_err-wait-in-Nothing.result c.from_residual-in_err-wait-in-Nothing.ensures.1 in
    let waited = c.wait.ensures in
    rw (p.1, p.2) (always_where c.in_err-wait-in-Nothing.field-0.0
    (stands_two c.wait.new.wire c.wait.new.x c.requires.holds waited.adds waited.x_place))
