use Rattle.line_steps.proofs.TalkNames.{ap, subst, ◌∙◌, arith, IfErr-weaker, Apart, say, FallsShort, piece_total, Spoke, Talks, turn_took, recorded_turned}
use Rattle.line_steps.proofs.TalkNames.{talks_turned, apart_turned, counted_turned}
use Rattle.line_steps.proofs.AskLaws.{two_ok, asks-next}
use Rattle.line_steps.proofs.EndLaws.{ends-apart, halts-turned, spoke-turned}
use Rattle.line_steps.proofs.asking.ask.Goals as goal

pub returns-clause-recorded : goal.returns-clause-recorded
returns-clause-recorded c recorded =
    let done = c.send_over.ensures in
    let apart = c.requires.asks.turn.settled.apart in
    let later = ends-apart c.send_over.new.y c.send_over.new.x (done.other_end ∙ c.requires.asks.ends.handheld_is)
    (done.own_end ∙ c.requires.asks.ends.desktop_is) in
    recorded_turned (apart_turned later) (done.recorded (recorded_turned (apart_turned apart) recorded))

pub returns-clause-tells : goal.returns-clause-tells
returns-clause-tells c =
    let line = c.args.line.now in
    let done = c.send_over.ensures in
    let apart = c.requires.asks.turn.settled.apart in
    two_ok c.send_over.result (λ turn tells. λ talk said before. talks_turned c.send_over.new.wire c.send_over.new.x c.send_over.new.y
    (apart_turned turn.settled.apart)
    (subst (λ X. Talks (say X c.args.request.now talk) c.send_over.new.wire c.send_over.new.x c.send_over.new.y) c.requires.asks.ends.desktop_is
    (tells talk (asks-next c.requires.asks c.transaction.ensures said) (talks_turned line.wire line.handheld line.desktop (apart_turned apart) before))))
    done.turn done.talks

pub returns-clause-ends : goal.returns-clause-ends
returns-clause-ends c =
    let line = c.args.line.now in
    let done = c.send_over.ensures in
    let ends = c.requires.asks.ends in
    let apart = c.requires.asks.turn.settled.apart in
    let handheld = done.other_end ∙ ends.handheld_is in
    let desktop = done.own_end ∙ ends.desktop_is in
    let later : Apart c.send_over.new.x.end c.send_over.new.y.end = apart_turned (ends-apart c.send_over.new.y c.send_over.new.x handheld desktop) in
    IfErr-weaker c.send_over.result _ _ (λ halt halted. λ talk said before. record {
      ends = record { handheld_is = handheld; desktop_is = desktop };
      by = halts-turned halt c.send_over.new.wire c.send_over.new.x c.send_over.new.y later halted.by;
      spoke = spoke-turned c.send_over.new.wire c.send_over.new.x c.send_over.new.y later
          (subst (λ X. Spoke (say X c.args.request.now talk) c.send_over.new.wire c.send_over.new.x c.send_over.new.y) ends.desktop_is
          (halted.talks talk (asks-next c.requires.asks c.transaction.ensures said)
          (talks_turned line.wire line.handheld line.desktop (apart_turned apart) before)));
    }) done.halted

pub returns-clause-counted : goal.returns-clause-counted
returns-clause-counted c counted =
    counted_turned (c.send_over.ensures.counted (counted_turned counted))

pub returns-clause-within : goal.returns-clause-within
returns-clause-within c =
    let line = c.args.line.now in
    let done = c.send_over.ensures in
    let ends = c.requires.asks.ends in
    let turn = c.requires.asks.turn in
    IfErr-weaker c.send_over.result _ _ (λ halt halted talk said before.
    let talks = talks_turned line.wire line.handheld line.desktop (apart_turned turn.settled.apart) before in
    record {
      others = omega (arith, halted.other, (turn_took turn talks).1, ap (λ X. piece_total X talk) ends.handheld_is);
      short = subst (λ X. FallsShort halt (say X c.args.request.now talk) c.send_over.new.wire c.send_over.new.x) ends.desktop_is
          (halted.short talk (asks-next c.requires.asks c.transaction.ensures said) talks);
    }) done.halted
