use Rattle.line_steps.proofs.Names.{arith, slice_get_within}
use Rattle.line_steps.proofs.Names.{None, subst, on_ok_weaker, fate_value, Halts, Sends, ack_fragment}
use Rattle.line_steps.proofs.DataLaws.{never_dropped, answers_wait, ack_fits, took_data, is_new_data, same_sender, idle_sender}
use Rattle.line_steps.proofs.WorkLaws.{took_data-less}
use Rattle.line_steps.proofs.AdvancingLaws.{halts_up}
use Rattle.line_steps.proofs.HaltedLaws.{halted_data}
use Rattle.line_steps.proofs.HaltingLaws.{err_weaker}
use Rattle.line_steps.proofs.UnderwayLaws.{took_data-underway}
use Rattle.line_steps.proofs.DeliveredLaws.{turned_after}
use Rattle.line_steps.proofs.taking.take_data.Goals.{in-Repeated, in-Accepted}
use Rattle.line_steps.proofs.taking.take_data.Goals as goal

pub overflow_add-x : goal.overflow_add-x
overflow_add-x c =
    let next = c.requires.next in
    omega (arith, c.len-sent.ensures, slice_get_within c.args.wire.now.frames.items c.args.x.now.taken next.frame next.here)

pub returns-in-Dropped-clause-holds : goal.returns-in-Dropped-clause-holds
returns-in-Dropped-clause-holds c = absurd (never_dropped c.requires c.in-Dropped.is)

pub send_ack-requires : goal.send_ack-requires
send_ack-requires c = λ small. ack_fits c.requires small

pub stop_waiting-requires : goal.stop_waiting-requires
stop_waiting-requires c = λ waits. answers_wait c.requires (is_new_data c.in-Accepted.is) waits

pub returns-clause-holds : goal.returns-clause-holds
returns-clause-holds c =
    let wire = c.args.wire.now in
    let new = c.send_ack.new.wire in
    let x = c.args.x.now in
    let y = c.args.y.now in
    let key = c.args.key in
    let taken = c.args.taken in
    elim c.match-taken.branch [
      | in-Repeated w ↦ on_ok_weaker c.send_ack.result (λ sends. rw w.y-is
          (took_data taken (fate_value c.args.fate.now) c.requires (same_sender y.sender w.in-Repeated.is)
          (subst (λ h. Sends wire.frames.items h.end key.id (ack_fragment key) (fate_value c.args.fate.now) None new.frames.items) w.y-is sends)
          c.send_ack.ensures.released)) c.send_ack.ensures.ok
      | in-Accepted w ↦ on_ok_weaker c.send_ack.result (λ sends. rw w.y-is (took_data taken (fate_value c.args.fate.now) c.requires
          (idle_sender y.sender w.in-Accepted.is w.stop_waiting.ensures.rest w.stop_waiting.ensures.idle)
          (subst (λ h. Sends wire.frames.items h.end key.id (ack_fragment key) (fate_value c.args.fate.now) None new.frames.items) w.y-is sends)
          c.send_ack.ensures.released)) c.send_ack.ensures.ok
    ]

pub returns-clause-turn : goal.returns-clause-turn
returns-clause-turn c =
    let wire = c.args.wire.now in
    let new = c.send_ack.new.wire in
    let x = c.args.x.now in
    let y = c.args.y.now in
    let key = c.args.key in
    let taken = c.args.taken in
    elim c.match-taken.branch [
      | in-Repeated w ↦ on_ok_weaker c.send_ack.result (λ sends. rw w.y-is
          (turned_after new taken (fate_value c.args.fate.now) y.sender c.requires (same_sender y.sender w.in-Repeated.is)
          (subst (λ h. Sends wire.frames.items h.end key.id (ack_fragment key) (fate_value c.args.fate.now) None new.frames.items) w.y-is sends)
          c.send_ack.ensures.released)) c.send_ack.ensures.ok
      | in-Accepted w ↦ on_ok_weaker c.send_ack.result (λ sends. rw w.y-is
          (turned_after new taken (fate_value c.args.fate.now) w.stop_waiting.new.sender c.requires
          (idle_sender y.sender w.in-Accepted.is w.stop_waiting.ensures.rest w.stop_waiting.ensures.idle)
          (subst (λ h. Sends wire.frames.items h.end key.id (ack_fragment key) (fate_value c.args.fate.now) None new.frames.items) w.y-is sends)
          c.send_ack.ensures.released)) c.send_ack.ensures.ok
    ]

pub returns-clause-less : goal.returns-clause-less
returns-clause-less c =
    let wire = c.args.wire.now in
    let new = c.send_ack.new.wire in
    let x = c.args.x.now in
    let y = c.args.y.now in
    let key = c.args.key in
    let taken = c.args.taken in
    elim c.match-taken.branch [
      | in-Repeated w ↦ on_ok_weaker c.send_ack.result (λ sends. rw w.y-is
          (took_data-less new (fate_value c.args.fate.now) y.sender c.requires (same_sender y.sender w.in-Repeated.is)
          (subst (λ h. Sends wire.frames.items h.end key.id (ack_fragment key) (fate_value c.args.fate.now) None new.frames.items) w.y-is sends)
          c.send_ack.ensures.released)) c.send_ack.ensures.ok
      | in-Accepted w ↦ on_ok_weaker c.send_ack.result (λ sends. rw w.y-is (took_data-less new (fate_value c.args.fate.now) w.stop_waiting.new.sender c.requires
          (idle_sender y.sender w.in-Accepted.is w.stop_waiting.ensures.rest w.stop_waiting.ensures.idle)
          (subst (λ h. Sends wire.frames.items h.end key.id (ack_fragment key) (fate_value c.args.fate.now) None new.frames.items) w.y-is sends)
          c.send_ack.ensures.released)) c.send_ack.ensures.ok
    ]

pub returns-in-Dropped-clause-less : goal.returns-in-Dropped-clause-less
returns-in-Dropped-clause-less c = absurd (never_dropped c.requires c.in-Dropped.is)

pub returns-clause-underway : goal.returns-clause-underway
returns-clause-underway c =
    let wire = c.args.wire.now in
    let new = c.send_ack.new.wire in
    let x = c.args.x.now in
    let y = c.args.y.now in
    let key = c.args.key in
    let taken = c.args.taken in
    elim c.match-taken.branch [
      | in-Repeated w ↦ on_ok_weaker c.send_ack.result (λ sends. rw w.y-is
          (took_data-underway taken (fate_value c.args.fate.now) c.requires (same_sender y.sender w.in-Repeated.is)
          (subst (λ h. Sends wire.frames.items h.end key.id (ack_fragment key) (fate_value c.args.fate.now) None new.frames.items) w.y-is sends)
          c.send_ack.ensures.released)) c.send_ack.ensures.ok
      | in-Accepted w ↦ on_ok_weaker c.send_ack.result (λ sends. rw w.y-is (took_data-underway taken (fate_value c.args.fate.now) c.requires
          (idle_sender y.sender w.in-Accepted.is w.stop_waiting.ensures.rest w.stop_waiting.ensures.idle)
          (subst (λ h. Sends wire.frames.items h.end key.id (ack_fragment key) (fate_value c.args.fate.now) None new.frames.items) w.y-is sends)
          c.send_ack.ensures.released)) c.send_ack.ensures.ok
    ]

pub returns-in-Dropped-clause-underway : goal.returns-in-Dropped-clause-underway
returns-in-Dropped-clause-underway c = absurd (never_dropped c.requires c.in-Dropped.is)

pub returns-clause-halted : goal.returns-clause-halted
returns-clause-halted c =
    let wire = c.args.wire.now in
    let new = c.send_ack.new.wire in
    let x = c.args.x.now in
    let y = c.args.y.now in
    let key = c.args.key in
    let taken = c.args.taken in
    elim c.match-taken.branch [
      | in-Repeated w ↦ err_weaker c.send_ack.result (λ halt it. rw w.y-is
          (halted_data (fate_value c.args.fate.now) c.requires (same_sender y.sender w.in-Repeated.is)
          (subst (λ h. Halts wire.frames.items h.end key.id (ack_fragment key) (fate_value c.args.fate.now) halt new.frames.items) w.y-is it)))
          c.send_ack.ensures.halt
      | in-Accepted w ↦ err_weaker c.send_ack.result (λ halt it. rw w.y-is (halted_data (fate_value c.args.fate.now) c.requires
          (idle_sender y.sender w.in-Accepted.is w.stop_waiting.ensures.rest w.stop_waiting.ensures.idle)
          (subst (λ h. Halts wire.frames.items h.end key.id (ack_fragment key) (fate_value c.args.fate.now) halt new.frames.items) w.y-is it)))
          c.send_ack.ensures.halt
    ]

pub returns-clause-up : goal.returns-clause-up
returns-clause-up c = err_weaker c.send_ack.result (λ halt it. halts_up _ _ _ _ _ _ halt it) c.send_ack.ensures.halt
