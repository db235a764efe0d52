use Rattle.line_steps.proofs.TalkNames.{ap, map, subst, ◌∙◌, arith, IfErr-weaker, on_ok_weaker, Desktop, frame_value, say, EndsAcknowledging, last_key, FallsShort}
use Rattle.line_steps.proofs.TalkNames.{piece_total, Spoke, turn_took, Talks}
use Rattle.line_steps.proofs.AskLaws.{answers-next}
use Rattle.line_steps.proofs.asking.answer.Goals as goal

pub returns-clause-tells : goal.returns-clause-tells
returns-clause-tells c =
    let line = c.args.line.now in
    on_ok_weaker c.send_over.result (λ tells. λ talk said before. subst
    (λ X. Talks (say X c.args.reply.now talk) c.send_over.new.wire c.send_over.new.x c.send_over.new.y) c.requires.answers.ends.handheld_is
    (tells talk (answers-next c.requires.answers c.transaction.ensures said) before)) c.send_over.ensures.talks

pub returns-clause-ends : goal.returns-clause-ends
returns-clause-ends c =
    let line = c.args.line.now in
    let done = c.send_over.ensures in
    let ends = c.requires.answers.ends in
    IfErr-weaker c.send_over.result _ _ (λ halt halted. λ talk said before. record {
      ends = record { handheld_is = done.own_end ∙ ends.handheld_is; desktop_is = done.other_end ∙ ends.desktop_is };
      by = halted.by;
      spoke = subst (λ X. Spoke (say X c.args.reply.now talk) c.send_over.new.wire c.send_over.new.x c.send_over.new.y) ends.handheld_is
          (halted.talks talk (answers-next c.requires.answers c.transaction.ensures said) before);
    }) done.halted

pub returns-clause-within : goal.returns-clause-within
returns-clause-within c =
    let line = c.args.line.now in
    let done = c.send_over.ensures in
    let ends = c.requires.answers.ends in
    IfErr-weaker c.send_over.result _ _ (λ halt halted talk said before. record {
      others = omega (arith, halted.other, (turn_took c.requires.answers.turn before).1, ap (λ X. piece_total X talk) ends.desktop_is);
      short = subst (λ X. FallsShort halt (say X c.args.reply.now talk) c.send_over.new.wire c.send_over.new.x) ends.handheld_is
          (halted.short talk (answers-next c.requires.answers c.transaction.ensures said) before);
    }) done.halted

pub returns-clause-acked : goal.returns-clause-acked
returns-clause-acked c =
    let frames = map frame_value c.send_over.new.wire.frames.items in
    on_ok_weaker c.send_over.result (λ acked. subst (λ n. EndsAcknowledging Desktop (last_key n c.args.reply.now) frames) c.transaction.ensures
    (subst (λ E. EndsAcknowledging E (last_key c.transaction.result c.args.reply.now) frames) c.requires.answers.ends.desktop_is acked))
    c.send_over.ensures.acked
