use Rattle.line_steps.proofs.TalkNames.{Result, Ok, Err, OnOk, ◌≡◌, ◌+◌, length, map, Some, ap, subst, ◌∙◌, arith, IfErr-weaker, err_from_is_err_and, on_ok_weaker}
use Rattle.line_steps.proofs.TalkNames.{frame_value, say, fate_by, EndsAcknowledging, last_key, FallsShort, up_where, Spoke, Talks}
use Rattle.line_steps.proofs.OverLaws.{both_err, either_way, expects-counted, expects-recorded, expects-next, expects-talks, expects-took, over-unsent}
use Rattle.line_steps.proofs.RoomLaws.{room_behind}
use Rattle.line_steps.proofs.over.send_over.Goals as goal
use Rattle.line_steps.proofs.AskLaws.{two_ok}

three_ok : {T E A B C D : Type 0} (r : Result T E) → (A → B → C → D) → OnOk r A → OnOk r B → OnOk r C → OnOk r D
three_ok (Ok x) f a b c = f a b c
three_ok (Err y) f a b c = tt

pub start-requires-clause-turn : goal.start-requires-clause-turn
start-requires-clause-turn c = c.expect.ensures.other c.args.wire.now c.args.x.now c.requires.turn

pub returns-in_err-start-clause-recorded : goal.returns-in_err-start-clause-recorded
returns-in_err-start-clause-recorded c recorded =
    let size : c.len.result ≡ length c.args.wire.now.frames.items = omega (arith, c.len.ensures.count) in
    c.start.ensures.recorded c.args.script.now (c.fate-fate.ensures ∙ ap (λ n. fate_by c.args.script.now (n + 1)) size)
    (expects-recorded c.expect.ensures.receiver recorded)

pub returns-clause-recorded : goal.returns-clause-recorded
returns-clause-recorded c recorded =
    let size : c.len.result ≡ length c.args.wire.now.frames.items = omega (arith, c.len.ensures.count) in
    c.carry.ensures.recorded (c.start.ensures.recorded c.args.script.now (c.fate-fate.ensures ∙ ap (λ n. fate_by c.args.script.now (n + 1)) size)
    (expects-recorded c.expect.ensures.receiver recorded))

pub returns-in_err-start-clause-counted : goal.returns-in_err-start-clause-counted
returns-in_err-start-clause-counted c counted = c.start.ensures.counted (expects-counted c.expect.ensures.receiver counted)

pub returns-clause-counted : goal.returns-clause-counted
returns-clause-counted c counted = c.carry.ensures.counted (c.start.ensures.counted (expects-counted c.expect.ensures.receiver counted))

pub returns-clause-talks : goal.returns-clause-talks
returns-clause-talks c =
    on_ok_weaker c.carry.result (λ keeps. λ talk next talks. keeps (say c.args.x.now.end c.args.message.now talk)
    (c.in_ok-start.ensures.talks talk (expects-next c.expect.ensures.receiver next)
    (expects-talks c.args.wire.now c.args.x.now c.args.y.now c.expect.ensures.receiver talks))) c.carry.ensures.talks

pub returns-clause-turn : goal.returns-clause-turn
returns-clause-turn c = on_ok_weaker c.carry.result (λ carried. carried.turn) c.carry.ensures.carried

pub returns-clause-waits : goal.returns-clause-waits
returns-clause-waits c = on_ok_weaker c.carry.result (λ carried. carried.waits) c.carry.ensures.carried

pub returns-clause-whole : goal.returns-clause-whole
returns-clause-whole c =
    two_ok c.carry.result (λ carried same. carried.message
    ∙ ap Some (same.message_is ∙ ap (λ h. h.message) c.start.ensures.says))
    c.carry.ensures.carried c.carry.ensures.x_same

pub returns-in_err-start-clause-own_end : goal.returns-in_err-start-clause-own_end
returns-in_err-start-clause-own_end c = ap (λ h. h.end) c.start.ensures.says

pub returns-clause-own_end : goal.returns-clause-own_end
returns-clause-own_end c =
    let from = ap (λ h. h.end) c.start.ensures.says in
    either_way c.carry.result (λ same. same.end_is ∙ from) (λ halt halted. halted.x_end ∙ from) c.carry.ensures.x_same c.carry.ensures.halted

pub returns-in_err-start-clause-other_end : goal.returns-in_err-start-clause-other_end
returns-in_err-start-clause-other_end c = ap (λ h. h.end) c.expect.ensures.receiver

pub returns-clause-other_end : goal.returns-clause-other_end
returns-clause-other_end c =
    let from = ap (λ h. h.end) c.expect.ensures.receiver in
    either_way c.carry.result (λ same. same.end_is ∙ from) (λ halt halted. halted.y_end ∙ from) c.carry.ensures.y_same c.carry.ensures.halted

pub returns-in_err-start-clause-halted : goal.returns-in_err-start-clause-halted
returns-in_err-start-clause-halted c =
    let p = err_from_is_err_and c.from_residual.result c.from_residual.ensures.1 in
    rw (p.1, p.2) (record {
      by = c.in_err-start.ensures.halted;
      talks = λ talk next talks. c.in_err-start.ensures.spoke talk (expects-next c.expect.ensures.receiver next)
          (expects-talks c.args.wire.now c.args.x.now c.args.y.now c.expect.ensures.receiver talks);
      other = omega (arith, c.start.ensures.advances.other, expects-took c.args.wire.now c.args.y.now c.expect.ensures.receiver);
      short = λ talk next talks. up_where c.in_err-start.field-0.0 _ c.in_err-start.ensures.up;
    })

pub returns-clause-halted : goal.returns-clause-halted
returns-clause-halted c =
    IfErr-weaker c.carry.result _ _ (λ halt both. let halted = both.0 in record {
      by = halted.by;
      talks = λ talk next talks. halted.talks (say c.args.x.now.end c.args.message.now talk)
          (c.in_ok-start.ensures.talks talk (expects-next c.expect.ensures.receiver next)
          (expects-talks c.args.wire.now c.args.x.now c.args.y.now c.expect.ensures.receiver talks));
      other = omega (
        arith,
        c.start.ensures.advances.other,
        c.carry.ensures.advances.other,
        expects-took c.args.wire.now c.args.y.now c.expect.ensures.receiver,
      );
      short = λ talk next talks. both.1 (say c.args.x.now.end c.args.message.now talk)
          (c.in_ok-start.ensures.talks talk (expects-next c.expect.ensures.receiver next)
          (expects-talks c.args.wire.now c.args.x.now c.args.y.now c.expect.ensures.receiver talks));
    }) (both_err c.carry.result _ _ c.carry.ensures.halted c.carry.ensures.short)

pub returns-clause-own_id : goal.returns-clause-own_id
returns-clause-own_id c = on_ok_weaker c.carry.result (λ same. same.id_is ∙ c.start.ensures.id) c.carry.ensures.x_same

pub returns-clause-other_same : goal.returns-clause-other_same
returns-clause-other_same c =
    let from = c.expect.ensures.receiver in
    on_ok_weaker c.carry.result (λ same. record {
      end_is = same.end_is ∙ ap (λ h. h.end) from;
      message_is = same.message_is ∙ ap (λ h. h.message) from;
      id_is = same.id_is ∙ ap (λ h. h.sender.id) from;
    }) c.carry.ensures.y_same

pub returns-clause-acked : goal.returns-clause-acked
returns-clause-acked c =
    let frames = map frame_value c.carry.new.wire.frames.items in
    three_ok c.carry.result (λ carried x_same y_same.
    (let end_is : c.carry.new.y.end ≡ c.args.y.now.end = y_same.end_is ∙ ap (λ h. h.end) c.expect.ensures.receiver in
    let id_is : c.carry.new.x.sender.id ≡ c.args.id = x_same.id_is ∙ c.start.ensures.id in
    let message_is : c.carry.new.x.message ≡ c.args.message.now =
    x_same.message_is ∙ ap (λ h. h.message) c.start.ensures.says in
    subst (λ E. EndsAcknowledging E (last_key c.args.id c.args.message.now) frames) end_is
    (subst (λ n. EndsAcknowledging c.carry.new.y.end (last_key n c.args.message.now) frames) id_is
    (subst (λ m. EndsAcknowledging c.carry.new.y.end (last_key c.carry.new.x.sender.id m) frames) message_is carried.acked))))
    c.carry.ensures.carried c.carry.ensures.x_same c.carry.ensures.y_same

pub returns-clause-room : goal.returns-clause-room
returns-clause-room c =
    room_behind c.carry.result c.args.wire.now.frames c.start.new.wire.frames c.carry.new.wire.frames c.start.ensures.room.0 c.carry.ensures.room
