use Rattle.line_steps.proofs.Names.{◌≡◌, None, length, refl, sym, ap, subst, inl, on_ok_weaker, fate_value, part_now, side_of, Holds, Halts, Sends, say, Spoke}
use Rattle.line_steps.proofs.Names.{cursor_of, Talks, Underway}
use Rattle.line_steps.proofs.AdvancingLaws.{advances_two, halts_up}
use Rattle.line_steps.proofs.CountingLaws.{counted_two}
use Rattle.line_steps.proofs.StartingLaws.{starts}
use Rattle.line_steps.proofs.AddingLaws.{adds_of}
use Rattle.line_steps.proofs.BeginningLaws.{starts-talks}
use Rattle.line_steps.proofs.RecordedLaws.{recorded_one}
use Rattle.line_steps.proofs.TurnLaws.{settled_holds}
use Rattle.line_steps.proofs.HaltedLaws.{halts_by, data_plain, start_speaks}
use Rattle.line_steps.proofs.HaltingLaws.{err_weaker}
use Rattle.line_steps.proofs.UnderwayLaws.{starts-underway}
use Rattle.line_steps.proofs.starting.start.Goals as goal

-- src/starting.rt:15:1
pub returns-clause-holds : goal.returns-clause-holds
returns-clause-holds c =
    let wire = c.args.wire.now in
    let x = c.args.x.now in
    let message = c.hold.new.message in
    let fits : length c.args.message.now ≡ length message = sym (ap length c.hold.ensures) in
    on_ok_weaker c.send_piece.result (λ sends. subst (λ s. Holds c.send_piece.new.wire (record x { sender = s; message = message })
    c.args.y.now) (sym c.start.ensures)
    (starts {given = fate_value c.args.fate.now} c.requires.turn c.requires.other c.requires.awaited c.requires.none fits
    (subst (λ s. Sends wire.frames.items x.end s.id (part_now (side_of (record x { sender = s; message = message }))) (fate_value c.args.fate.now) None
    c.send_piece.new.wire.frames.items) c.start.ensures sends) c.send_piece.ensures.released)) c.send_piece.ensures.ok

pub returns-clause-underway : goal.returns-clause-underway
returns-clause-underway c =
    let wire = c.args.wire.now in
    let x = c.args.x.now in
    let message = c.hold.new.message in
    let fits : length c.args.message.now ≡ length message = sym (ap length c.hold.ensures) in
    on_ok_weaker c.send_piece.result (λ sends. subst (λ s. Underway c.send_piece.new.wire (record x { sender = s; message = message })
    c.args.y.now) (sym c.start.ensures)
    (starts-underway {given = fate_value c.args.fate.now} c.requires.turn c.requires.other c.requires.awaited c.requires.none fits
    (subst (λ s. Sends wire.frames.items x.end s.id (part_now (side_of (record x { sender = s; message = message }))) (fate_value c.args.fate.now) None
    c.send_piece.new.wire.frames.items) c.start.ensures sends) c.send_piece.ensures.released)) c.send_piece.ensures.ok

pub returns-clause-talks : goal.returns-clause-talks
returns-clause-talks c =
    let wire = c.args.wire.now in
    let x = c.args.x.now in
    let message = c.hold.new.message in
    on_ok_weaker c.send_piece.result (λ sends talk next talks. subst (λ m. Talks (say x.end m talk) c.send_piece.new.wire
    (record x { sender = c.start.new.self; message = message }) c.args.y.now) c.hold.ensures (subst
    (λ s. Talks (say x.end message talk) c.send_piece.new.wire (record x { sender = s; message = message }) c.args.y.now) (sym c.start.ensures)
    (starts-talks c.send_piece.new.wire (length c.args.message.now) message {given = fate_value c.args.fate.now} c.requires.turn c.requires.other
    c.requires.awaited c.requires.none
    (subst (λ s. Sends wire.frames.items x.end s.id (part_now (side_of (record x { sender = s; message = message }))) (fate_value c.args.fate.now) None
    c.send_piece.new.wire.frames.items) c.start.ensures sends) c.send_piece.ensures.released next talks))) c.send_piece.ensures.ok

pub returns-clause-recorded : goal.returns-clause-recorded
returns-clause-recorded c = λ script is.
    let half = record c.args.x.now { sender = c.start.new.self; message = c.hold.new.message } in
    recorded_one (settled_holds c.requires.turn.settled) is
    (adds_of c.send_piece.result c.args.x.now.end c.start.new.self.id (part_now (side_of half)) c.send_piece.ensures.ok
    c.send_piece.ensures.halt) (refl, refl) (refl, refl)

pub returns-clause-halted : goal.returns-clause-halted
returns-clause-halted c =
    let half = record c.args.x.now { sender = c.start.new.self; message = c.hold.new.message } in
    let old = c.args.wire.now.frames.items in
    let new = c.send_piece.new.wire.frames.items in
    err_weaker c.send_piece.result
    (λ halt it. halts_by old new half.end half.sender.id (part_now (side_of half)) (fate_value c.args.fate.now) halt (cursor_of half c.args.y.now) data_plain
    c.requires.turn.settled.go it) c.send_piece.ensures.halt

pub returns-clause-spoke : goal.returns-clause-spoke
returns-clause-spoke c =
    let wire = c.args.wire.now in
    let x = c.args.x.now in
    let y = c.args.y.now in
    let message = c.hold.new.message in
    let new = c.send_piece.new.wire in
    let half = record x { sender = c.start.new.self; message = message } in
    err_weaker c.send_piece.result
    (λ halt it talk next talks. subst (λ m. Spoke (say x.end m talk) new half c.args.y.now) c.hold.ensures
    (start_speaks new message (fate_value c.args.fate.now) halt c.requires.turn c.requires.other c.requires.awaited c.requires.none
    (subst (λ s. Halts wire.frames.items x.end s.id (part_now (side_of (record x { sender = s; message = message }))) (fate_value c.args.fate.now) halt
    new.frames.items) c.start.ensures it) next talks)) c.send_piece.ensures.halt

pub returns-clause-counted : goal.returns-clause-counted
returns-clause-counted c =
    let half = record c.args.x.now { sender = c.start.new.self; message = c.hold.new.message } in
    counted_two {other = fate_value c.args.fate.now} (settled_holds c.requires.turn.settled)
    (inl (adds_of c.send_piece.result c.args.x.now.end c.start.new.self.id (part_now (side_of half)) c.send_piece.ensures.ok c.send_piece.ensures.halt))
    (refl, refl) (refl, refl) refl refl

pub returns-clause-advances : goal.returns-clause-advances
returns-clause-advances c =
    let half = record c.args.x.now { sender = c.start.new.self; message = c.hold.new.message } in
    advances_two {other = fate_value c.args.fate.now} (settled_holds c.requires.turn.settled)
    (inl (adds_of c.send_piece.result c.args.x.now.end c.start.new.self.id (part_now (side_of half)) c.send_piece.ensures.ok c.send_piece.ensures.halt))
    (refl, refl) (refl, refl)

pub returns-clause-up : goal.returns-clause-up
returns-clause-up c =
    let half = record c.args.x.now { sender = c.start.new.self; message = c.hold.new.message } in
    let old = c.args.wire.now.frames.items in
    let new = c.send_piece.new.wire.frames.items in
    err_weaker c.send_piece.result
    (λ halt it. halts_up old new half.end half.sender.id (part_now (side_of half)) (fate_value c.args.fate.now) halt it) c.send_piece.ensures.halt
