use Rattle.line_steps.proofs.Names.{◌≡◌, length, arith, sym, ap, ◌∙◌, is_some, on_ok_weaker, err_from_is_err_and, fate_value}
use Rattle.line_steps.proofs.TakingLaws.{some_waits, waits_not}
use Rattle.line_steps.proofs.RoomLaws.{room_behind}
use Rattle.line_steps.proofs.WorkLaws.{other_waits, tick_one-less, tick_other-less, tick_two-less}
use Rattle.line_steps.proofs.UnderwayLaws.{tick_one-underway, tick_other-underway, tick_two-underway}
use Rattle.line_steps.proofs.AddingLaws.{adds_two, first_again, first_two}
use Rattle.line_steps.proofs.HaltingLaws.{err_weaker}
use Rattle.line_steps.proofs.HaltedLaws.{first_halts, second_halts, halted_there, halted_turned}
use Rattle.line_steps.proofs.CarryingLaws.{stays_refl}
use Rattle.line_steps.proofs.TurnLaws.{apart_turned, holds_turned}
use Rattle.line_steps.proofs.StartingLaws.{ticks_one, ticks_other, ticks_two}
use Rattle.line_steps.proofs.ticking.tick.Goals as goal

pub returns-then-is_none-clause-holds : goal.returns-then-is_none-clause-holds
returns-then-is_none-clause-holds c =
    let size : c.len-wire.result ≡ length c.args.wire.now.frames.items = omega (arith, c.len-wire.ensures.count) in
    let idle = waits_not c.args.x.now.sender (ap is_some (sym c.current.ensures.piece) ∙ c.if-is_none.ensures) in
    on_ok_weaker c.send_again.result (λ sent. ticks_other size c.requires.holds c.requires.x_blocked c.requires.y_blocked idle c.requires.waits
    sent) c.send_again.ensures.again

pub returns-then-is_none-2-clause-holds : goal.returns-then-is_none-2-clause-holds
returns-then-is_none-2-clause-holds c =
    let size : c.len-wire.result ≡ length c.args.wire.now.frames.items = omega (arith, c.len-wire.ensures.count) in
    let waits = some_waits c.args.x.now.sender (ap is_some (sym c.current.ensures.piece) ∙ c.if-is_none.ensures) in
    let idle = waits_not c.args.y.now.sender (ap is_some (sym c.current-2.ensures.piece) ∙ c.if-is_none-2.ensures) in
    ticks_one size c.requires.holds c.requires.x_blocked c.requires.y_blocked waits idle c.in_ok-send_again.ensures.again

pub returns-clause-holds : goal.returns-clause-holds
returns-clause-holds c =
    let size : c.len-wire.result ≡ length c.args.wire.now.frames.items = omega (arith, c.len-wire.ensures.count) in
    let x_waits = some_waits c.args.x.now.sender (ap is_some (sym c.current.ensures.piece) ∙ c.if-is_none.ensures) in
    let y_waits = some_waits c.args.y.now.sender (ap is_some (sym c.current-2.ensures.piece) ∙ c.if-is_none-2.ensures) in
    on_ok_weaker c.send_again-3.result (λ sent. ticks_two size
    c.requires.holds c.requires.x_blocked c.requires.y_blocked x_waits y_waits c.in_ok-send_again.ensures.again sent) c.send_again-3.ensures.again

pub returns-then-is_none-clause-less : goal.returns-then-is_none-clause-less
returns-then-is_none-clause-less c =
    let idle = waits_not c.args.x.now.sender (ap is_some (sym c.current.ensures.piece) ∙ c.if-is_none.ensures) in
    on_ok_weaker c.send_again.result (λ sent. tick_other-less c.requires.holds (other_waits idle c.requires.waits) sent) c.send_again.ensures.again

pub returns-then-is_none-2-clause-less : goal.returns-then-is_none-2-clause-less
returns-then-is_none-2-clause-less c =
    let waits = some_waits c.args.x.now.sender (ap is_some (sym c.current.ensures.piece) ∙ c.if-is_none.ensures) in
    tick_one-less c.requires.holds waits c.in_ok-send_again.ensures.again

pub returns-clause-less : goal.returns-clause-less
returns-clause-less c =
    let x_waits = some_waits c.args.x.now.sender (ap is_some (sym c.current.ensures.piece) ∙ c.if-is_none.ensures) in
    let y_waits = some_waits c.args.y.now.sender (ap is_some (sym c.current-2.ensures.piece) ∙ c.if-is_none-2.ensures) in
    on_ok_weaker c.send_again-3.result (λ sent. tick_two-less
    c.requires.holds x_waits y_waits c.in_ok-send_again.ensures.again sent) c.send_again-3.ensures.again

pub returns-then-is_none-clause-underway : goal.returns-then-is_none-clause-underway
returns-then-is_none-clause-underway c =
    let idle = waits_not c.args.x.now.sender (ap is_some (sym c.current.ensures.piece) ∙ c.if-is_none.ensures) in
    on_ok_weaker c.send_again.result (λ sent. tick_other-underway c.requires.holds (other_waits idle c.requires.waits) sent) c.send_again.ensures.again

pub returns-then-is_none-2-clause-underway : goal.returns-then-is_none-2-clause-underway
returns-then-is_none-2-clause-underway c =
    let waits = some_waits c.args.x.now.sender (ap is_some (sym c.current.ensures.piece) ∙ c.if-is_none.ensures) in
    tick_one-underway c.requires.holds waits c.in_ok-send_again.ensures.again

pub returns-clause-underway : goal.returns-clause-underway
returns-clause-underway c =
    let x_waits = some_waits c.args.x.now.sender (ap is_some (sym c.current.ensures.piece) ∙ c.if-is_none.ensures) in
    let y_waits = some_waits c.args.y.now.sender (ap is_some (sym c.current-2.ensures.piece) ∙ c.if-is_none-2.ensures) in
    on_ok_weaker c.send_again-3.result (λ sent. tick_two-underway
    c.requires.holds x_waits y_waits c.in_ok-send_again.ensures.again sent) c.send_again-3.ensures.again

pub returns-clause-adds : goal.returns-clause-adds
returns-clause-adds c =
    adds_two c.in_ok-send_again.ensures.again c.send_again-3.ensures.adds

pub returns-then-is_none-clause-halted : goal.returns-then-is_none-clause-halted
returns-then-is_none-clause-halted c =
    let x = c.args.x.now in
    let holds = c.requires.holds in
    let idle = waits_not x.sender (ap is_some (sym c.current.ensures.piece) ∙ c.if-is_none.ensures) in
    err_weaker c.send_again.result
    (λ halt it. halted_there stays_refl c.send_again.ensures.stays (halted_turned (apart_turned holds.apart) (apart_turned holds.apart)
    (first_halts c.len-wire.result (fate_value c.args.fate.now) halt (holds_turned holds) c.requires.y_blocked c.requires.x_blocked
    (other_waits idle c.requires.waits) it))) c.send_again.ensures.halts

pub returns-clause-halted : goal.returns-clause-halted
returns-clause-halted c =
    let x = c.args.x.now in
    let y = c.args.y.now in
    let x_waits = some_waits x.sender (ap is_some (sym c.current.ensures.piece) ∙ c.if-is_none.ensures) in
    let y_waits = some_waits y.sender (ap is_some (sym c.current-2.ensures.piece) ∙ c.if-is_none-2.ensures) in
    err_weaker c.send_again-3.result (λ halt it. halted_there c.send_again-2.ensures.stays c.send_again-3.ensures.stays
    (second_halts (fate_value c.args.other.now) c.requires.holds c.requires.x_blocked c.requires.y_blocked x_waits y_waits c.in_ok-send_again.ensures.again it))
    c.send_again-3.ensures.halts

pub returns-in_err-send_again-clause-halted : goal.returns-in_err-send_again-clause-halted
returns-in_err-send_again-clause-halted c =
    let x = c.args.x.now in
    let waits = some_waits x.sender (ap is_some (sym c.current.ensures.piece) ∙ c.if-is_none.ensures) in
    let p = err_from_is_err_and c.from_residual.result c.from_residual.ensures.1 in
    rw (p.1, p.2) (halted_there c.send_again-2.ensures.stays stays_refl
    (first_halts c.len-wire.result (fate_value c.args.fate.now) c.in_err-send_again.field-0.0 c.requires.holds c.requires.x_blocked c.requires.y_blocked waits
    c.in_err-send_again.ensures.halts))

pub returns-then-is_none-clause-first : goal.returns-then-is_none-clause-first
returns-then-is_none-clause-first c waits =
    absurd (waits_not c.args.x.now.sender (ap is_some (sym c.current.ensures.piece) ∙ c.if-is_none.ensures) waits)

pub returns-then-is_none-2-clause-first : goal.returns-then-is_none-2-clause-first
returns-then-is_none-2-clause-first c waits = first_again c.in_ok-send_again.ensures.again

pub returns-clause-first : goal.returns-clause-first
returns-clause-first c waits = first_two c.in_ok-send_again.ensures.again c.send_again-3.ensures.adds

pub returns-clause-room : goal.returns-clause-room
returns-clause-room c =
    room_behind c.send_again-3.result c.args.wire.now.frames c.send_again-2.new.wire.frames c.send_again-3.new.wire.frames
    c.send_again-2.ensures.room.0 c.send_again-3.ensures.room
