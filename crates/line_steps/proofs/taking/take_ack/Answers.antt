use Rattle.line_steps.proofs.Names.{◌<◌, ◌+◌, ◌≤◌, None, arith, slice_get_within, sym, ap, subst, ◌∙◌, is_some, both_ways, on_ok_weaker, piece_count, fate_value, part_now, side_of}
use Rattle.line_steps.proofs.Names.{Holds, HaltsBetween, Halts, Sends, StillUnderway, work_left}
use Rattle.line_steps.proofs.HoldsLaws.{moved}
use Rattle.line_steps.specs.declared.hearing.Heard.TheVariants as heard_as
use Rattle.line_steps.proofs.AdvancingLaws.{halts_up}
use Rattle.line_steps.proofs.AddingLaws.{adds_of}
use Rattle.line_steps.proofs.HaltedLaws.{halted_ack}
use Rattle.line_steps.proofs.HaltingLaws.{err_weaker}
use Rattle.line_steps.proofs.UnderwayLaws.{ack_other-underway, ack_last-underway, ack_more-underway}
use Rattle.line_steps.proofs.WorkLaws.{ack_other-less, ack_last-less, ack_more-less}
use Rattle.line_steps.proofs.TakingLaws.{some_waits, none_waits, ack_other, ack_last, ack_more}
use Rattle.line_steps.proofs.taking.take_ack.Goals as goal

pub overflow_add-x : goal.overflow_add-x
overflow_add-x c =
    let next = c.requires.next.next in
    omega (arith, c.len-sent.ensures, slice_get_within c.args.wire.now.frames.items c.args.x.now.taken next.frame next.here)

pub returns-then-not-on_ack-clause-holds : goal.returns-then-not-on_ack-clause-holds
returns-then-not-on_ack-clause-holds c =
    let same = c.on_ack.ensures.stays c.if-not-on_ack.true in
    subst (λ s. Holds c.args.wire.now (moved c.args.x.now) (record c.args.y.now { sender = s })) (sym same)
    (ack_other c.requires.holds c.requires.next (λ is. both_ways _ c.if-not-on_ack.true (c.on_ack.ensures.taken.1 is)))

pub returns-then-is_none-clause-holds : goal.returns-then-is_none-clause-holds
returns-then-is_none-clause-holds c =
    let next = c.on_ack.ensures.next c.if-not-on_ack.false in
    let over = none_waits c.on_ack.new.self (ap is_some (sym c.current.ensures.piece) ∙ c.if-is_none.ensures) in
    let last : piece_count c.args.y.now.sender.length ≤ c.args.y.now.sender.acknowledged + 1 = subst (λ s. piece_count s.length ≤ s.acknowledged) next over in
    subst (λ s. Holds c.args.wire.now (moved c.args.x.now) (record c.args.y.now { sender = s })) (sym next)
    (ack_last c.requires.holds c.requires.next (c.on_ack.ensures.taken.0 c.if-not-on_ack.false) last)

pub returns-clause-holds : goal.returns-clause-holds
returns-clause-holds c =
    let y = c.args.y.now in
    let next = c.on_ack.ensures.next c.if-not-on_ack.false in
    let waits = some_waits c.on_ack.new.self (ap is_some (sym c.current.ensures.piece) ∙ c.if-is_none.ensures) in
    let more : y.sender.acknowledged + 1 < piece_count y.sender.length = subst (λ s. s.acknowledged < piece_count s.length) next waits in
    on_ok_weaker c.send_piece.result (λ sends. subst (λ s. Holds c.send_piece.new.wire (moved c.args.x.now) (record y { sender = s })) (sym next)
    (ack_more {given = fate_value c.args.fate.now} c.requires.holds c.requires.next (c.on_ack.ensures.taken.0 c.if-not-on_ack.false) more
    (subst (λ s. Sends c.args.wire.now.frames.items y.end s.id (part_now (side_of (record y { sender = s }))) (fate_value c.args.fate.now) None
    c.send_piece.new.wire.frames.items) next sends) c.send_piece.ensures.released)) c.send_piece.ensures.ok

pub returns-then-not-on_ack-clause-less : goal.returns-then-not-on_ack-clause-less
returns-then-not-on_ack-clause-less c =
    let same = c.on_ack.ensures.stays c.if-not-on_ack.true in
    subst (λ s. work_left c.args.wire.now (moved c.args.x.now) (record c.args.y.now { sender = s }) < work_left c.args.wire.now
    c.args.x.now c.args.y.now) (sym same)
    (ack_other-less c.requires.holds c.requires.next)

pub returns-then-is_none-clause-less : goal.returns-then-is_none-clause-less
returns-then-is_none-clause-less c =
    let next = c.on_ack.ensures.next c.if-not-on_ack.false in
    let over = none_waits c.on_ack.new.self (ap is_some (sym c.current.ensures.piece) ∙ c.if-is_none.ensures) in
    let last : piece_count c.args.y.now.sender.length ≤ c.args.y.now.sender.acknowledged + 1 = subst (λ s. piece_count s.length ≤ s.acknowledged) next over in
    subst (λ s. work_left c.args.wire.now (moved c.args.x.now) (record c.args.y.now { sender = s }) < work_left c.args.wire.now
    c.args.x.now c.args.y.now) (sym next)
    (ack_last-less c.requires.holds c.requires.next (c.on_ack.ensures.taken.0 c.if-not-on_ack.false) last)

pub returns-clause-less : goal.returns-clause-less
returns-clause-less c =
    let y = c.args.y.now in
    let next = c.on_ack.ensures.next c.if-not-on_ack.false in
    let waits = some_waits c.on_ack.new.self (ap is_some (sym c.current.ensures.piece) ∙ c.if-is_none.ensures) in
    let more : y.sender.acknowledged + 1 < piece_count y.sender.length = subst (λ s. s.acknowledged < piece_count s.length) next waits in
    on_ok_weaker c.send_piece.result (λ sends. subst (λ s. work_left c.send_piece.new.wire (moved c.args.x.now) (record y { sender = s }) < work_left
    c.args.wire.now c.args.x.now y) (sym next)
    (ack_more-less c.send_piece.new.wire {given = fate_value c.args.fate.now} c.requires.holds c.requires.next more
    (subst (λ s. Sends c.args.wire.now.frames.items y.end s.id (part_now (side_of (record y { sender = s }))) (fate_value c.args.fate.now) None
    c.send_piece.new.wire.frames.items) next sends) c.send_piece.ensures.released)) c.send_piece.ensures.ok

pub returns-then-not-on_ack-clause-underway : goal.returns-then-not-on_ack-clause-underway
returns-then-not-on_ack-clause-underway c =
    let same = c.on_ack.ensures.stays c.if-not-on_ack.true in
    subst (λ s. StillUnderway (heard_as.Ack c.args.key) c.args.wire.now c.args.x.now c.args.y.now c.args.wire.now (moved c.args.x.now)
    (record c.args.y.now { sender = s })) (sym same)
    (ack_other-underway c.requires.holds c.requires.next)

pub returns-then-is_none-clause-underway : goal.returns-then-is_none-clause-underway
returns-then-is_none-clause-underway c =
    let next = c.on_ack.ensures.next c.if-not-on_ack.false in
    let over = none_waits c.on_ack.new.self (ap is_some (sym c.current.ensures.piece) ∙ c.if-is_none.ensures) in
    let last : piece_count c.args.y.now.sender.length ≤ c.args.y.now.sender.acknowledged + 1 = subst (λ s. piece_count s.length ≤ s.acknowledged) next over in
    subst (λ s. StillUnderway (heard_as.Ack c.args.key) c.args.wire.now c.args.x.now c.args.y.now c.args.wire.now (moved c.args.x.now)
    (record c.args.y.now { sender = s })) (sym next)
    (ack_last-underway c.requires.holds c.requires.next (c.on_ack.ensures.taken.0 c.if-not-on_ack.false) last)

pub returns-clause-underway : goal.returns-clause-underway
returns-clause-underway c =
    let y = c.args.y.now in
    let next = c.on_ack.ensures.next c.if-not-on_ack.false in
    let waits = some_waits c.on_ack.new.self (ap is_some (sym c.current.ensures.piece) ∙ c.if-is_none.ensures) in
    let more : y.sender.acknowledged + 1 < piece_count y.sender.length = subst (λ s. s.acknowledged < piece_count s.length) next waits in
    on_ok_weaker c.send_piece.result (λ sends. subst (λ s. StillUnderway (heard_as.Ack c.args.key) c.args.wire.now c.args.x.now y c.send_piece.new.wire
    (moved c.args.x.now) (record y { sender = s })) (sym next)
    (ack_more-underway {given = fate_value c.args.fate.now} c.requires.holds c.requires.next (c.on_ack.ensures.taken.0 c.if-not-on_ack.false) more
    (subst (λ s. Sends c.args.wire.now.frames.items y.end s.id (part_now (side_of (record y { sender = s }))) (fate_value c.args.fate.now) None
    c.send_piece.new.wire.frames.items) next sends) c.send_piece.ensures.released)) c.send_piece.ensures.ok

pub returns-clause-adds : goal.returns-clause-adds
returns-clause-adds c =
    adds_of c.send_piece.result c.args.y.now.end c.on_ack.new.self.id (part_now (side_of (record c.args.y.now { sender = c.on_ack.new.self })))
    c.send_piece.ensures.ok c.send_piece.ensures.halt

pub returns-clause-halted : goal.returns-clause-halted
returns-clause-halted c =
    let wire = c.args.wire.now in
    let new = c.send_piece.new.wire in
    let x = c.args.x.now in
    let y = c.args.y.now in
    let next = c.on_ack.ensures.next c.if-not-on_ack.false in
    let waits = some_waits c.on_ack.new.self (ap is_some (sym c.current.ensures.piece) ∙ c.if-is_none.ensures) in
    let more : y.sender.acknowledged + 1 < piece_count y.sender.length = subst (λ s. s.acknowledged < piece_count s.length) next waits in
    let half = record y { sender = c.on_ack.new.self } in
    err_weaker c.send_piece.result
    (λ halt it. subst (λ s. HaltsBetween halt wire x y new (moved x) (record y { sender = s })) (sym next)
    (halted_ack (fate_value c.args.fate.now) c.requires.holds c.requires.next (c.on_ack.ensures.taken.0 c.if-not-on_ack.false) more
    (subst (λ s. Halts wire.frames.items y.end s.id (part_now (side_of (record y { sender = s }))) (fate_value c.args.fate.now) halt
    new.frames.items) next it)))
    c.send_piece.ensures.halt

pub returns-clause-up : goal.returns-clause-up
returns-clause-up c =
    let old = c.args.wire.now.frames.items in
    let new = c.send_piece.new.wire.frames.items in
    let part = part_now (side_of (record c.args.y.now { sender = c.on_ack.new.self })) in
    err_weaker c.send_piece.result (λ halt it. halts_up old new c.args.y.now.end c.on_ack.new.self.id part (fate_value c.args.fate.now)
    halt it) c.send_piece.ensures.halt
