use Rattle.line_steps.proofs.TalkNames.{◌≡◌, ◌∷◌, [], refl, ap, subst, ◌∙◌, err_from_is_err_and, Init, hello_bytes, Apart, say, Spoke, no_talk, recorded_turned}
use Rattle.line_steps.proofs.TalkNames.{talks_turned, apart_turned, greeted, wake, counted_turned}
use Rattle.line_steps.proofs.AskLaws.{greeted-tells, greets-tells, wakes-next, woke-tells}
use Rattle.line_steps.proofs.EndLaws.{ends-apart, halts-turned, inits-greeted, spoke-turned, wakes-greeted}
use Rattle.line_steps.proofs.greeting.greet.Goals as goal

pub returns-in_err-send_over-clause-recorded : goal.returns-in_err-send_over-clause-recorded
returns-in_err-send_over-clause-recorded c recorded = c.send_over.ensures.recorded recorded

pub returns-in_err-send_over-2-clause-recorded : goal.returns-in_err-send_over-2-clause-recorded
returns-in_err-send_over-2-clause-recorded c recorded =
    let first = c.send_over.ensures in
    let second = c.send_over-2.ensures in
    let turned = recorded_turned (apart_turned c.in_ok-send_over.ensures.turn.settled.apart) (first.recorded recorded) in
    let apart = ends-apart c.send_over-2.new.y c.send_over-2.new.x (second.other_end ∙ first.own_end ∙ c.requires.ends.handheld_is)
    (second.own_end ∙ first.other_end ∙ c.requires.ends.desktop_is) in
    recorded_turned (apart_turned apart) (second.recorded turned)

pub returns-in_err-settle-clause-recorded : goal.returns-in_err-settle-clause-recorded
returns-in_err-settle-clause-recorded c recorded =
    let first = c.send_over.ensures in
    let second = c.send_over-2.ensures in
    let halted = c.in_err-settle.ensures.halted in
    let turned = recorded_turned (apart_turned c.in_ok-send_over.ensures.turn.settled.apart) (first.recorded recorded) in
    let apart = ends-apart c.settle.new.y c.settle.new.x (halted.y_end ∙ second.other_end ∙ first.own_end ∙ c.requires.ends.handheld_is)
    (halted.x_end ∙ second.own_end ∙ first.other_end ∙ c.requires.ends.desktop_is) in
    recorded_turned (apart_turned apart) (c.settle.ensures.recorded (second.recorded turned))

pub returns-clause-recorded : goal.returns-clause-recorded
returns-clause-recorded c recorded =
    let turned = recorded_turned (apart_turned c.in_ok-send_over.ensures.turn.settled.apart) (c.send_over.ensures.recorded recorded) in
    recorded_turned c.in_ok-settle.ensures.turn.settled.apart (c.settle.ensures.recorded (c.send_over-2.ensures.recorded turned))

pub returns-clause-rate : goal.returns-clause-rate
returns-clause-rate c =
    c.rate_of-rate.ensures wake c.greeting-wake.result c.in_ok-send_over.ensures.whole c.greeting-wake.ensures.text

pub returns-clause-tells : goal.returns-clause-tells
returns-clause-tells c before =
    let first = c.in_ok-send_over.ensures in
    let second = c.in_ok-send_over-2.ensures in
    let d_end = first.other_same.end_is ∙ c.requires.ends.desktop_is in
    let both = greets-tells c.args.line.now c.send_over.new.wire c.send_over-2.new.wire c.send_over-2.new.y c.send_over-2.new.x
    (apart_turned first.turn.settled.apart) c.requires.ends.handheld_is d_end first.talks second.talks before in
    let rate : c.rate_of-rate.result ≡ 9600 = c.rate_of-rate.ensures wake c.greeting-wake.result first.whole c.greeting-wake.ensures.text in
    let init_is = c.greeting-init.ensures.bytes ∙ ap (λ r. hello_bytes (record { kind = Init; flags = 0; minor = 1; rate = r }) (0 ∷ 0 ∷ [])) rate in
    talks_turned c.settle.new.wire c.settle.new.x c.settle.new.y c.in_ok-settle.ensures.turn.settled.apart
    (c.in_ok-settle.ensures.talks greeted (greeted-tells c.send_over-2.new.wire c.send_over-2.new.x c.send_over-2.new.y
    c.greeting-wake.ensures.bytes init_is both))

pub returns-in_err-send_over-clause-ends : goal.returns-in_err-send_over-clause-ends
returns-in_err-send_over-clause-ends c =
    let p = err_from_is_err_and c.from_residual.result c.from_residual.ensures.1 in
    let first = c.send_over.ensures in
    let halted = c.in_err-send_over.ensures.halted in
    let line = c.args.line.now in
    let ends = c.requires.ends in
    let handheld = first.own_end ∙ ends.handheld_is in
    let desktop = first.other_end ∙ ends.desktop_is in
    rw (p.1, p.2) (λ before. record {
      ends = record { handheld_is = handheld; desktop_is = desktop };
      by = halted.by;
      spoke = wakes-greeted c.send_over.new.wire c.send_over.new.x c.send_over.new.y handheld desktop c.greeting-wake.ensures.bytes
          (subst (λ X. Spoke (say X c.greeting-wake.result no_talk) c.send_over.new.wire c.send_over.new.x c.send_over.new.y) ends.handheld_is
          (halted.talks no_talk (wakes-next line ends.handheld_is refl) before));
    })

pub returns-in_err-send_over-2-clause-ends : goal.returns-in_err-send_over-2-clause-ends
returns-in_err-send_over-2-clause-ends c =
    let p = err_from_is_err_and c.from_residual-in_err-send_over-2.result c.from_residual-in_err-send_over-2.ensures.1 in
    let first = c.in_ok-send_over.ensures in
    let halted = c.in_err-send_over-2.ensures.halted in
    let line = c.args.line.now in
    let ends = c.requires.ends in
    let d_end = first.other_same.end_is ∙ ends.desktop_is in
    let handheld = c.send_over-2.ensures.other_end ∙ c.send_over.ensures.own_end ∙ ends.handheld_is in
    let desktop = c.send_over-2.ensures.own_end ∙ d_end in
    let later : Apart c.send_over-2.new.x.end c.send_over-2.new.y.end = apart_turned (ends-apart c.send_over-2.new.y c.send_over-2.new.x handheld desktop) in
    let rate : c.rate_of-rate.result ≡ 9600 = c.rate_of-rate.ensures wake c.greeting-wake.result first.whole c.greeting-wake.ensures.text in
    let init_is = c.greeting-init.ensures.bytes ∙ ap (λ r. hello_bytes (record { kind = Init; flags = 0; minor = 1; rate = r }) (0 ∷ 0 ∷ [])) rate in
    rw (p.1, p.2) (λ before. record {
      ends = record { handheld_is = handheld; desktop_is = desktop };
      by = halts-turned _ c.send_over-2.new.wire c.send_over-2.new.x c.send_over-2.new.y later halted.by;
      spoke = spoke-turned c.send_over-2.new.wire c.send_over-2.new.x c.send_over-2.new.y later
          (inits-greeted c.send_over.new.wire c.send_over-2.new.wire c.send_over-2.new.x c.send_over-2.new.y d_end
          c.greeting-wake.ensures.bytes init_is halted.talks
          (woke-tells c.args.line.now c.send_over.new.wire c.send_over.new.x c.send_over.new.y (apart_turned first.turn.settled.apart)
          ends.handheld_is first.talks before));
    })

pub returns-in_err-settle-clause-ends : goal.returns-in_err-settle-clause-ends
returns-in_err-settle-clause-ends c =
    let p = err_from_is_err_and c.from_residual-in_err-settle.result c.from_residual-in_err-settle.ensures.1 in
    let first = c.in_ok-send_over.ensures in
    let second = c.in_ok-send_over-2.ensures in
    let halted = c.in_err-settle.ensures.halted in
    let ends = c.requires.ends in
    let d_end = first.other_same.end_is ∙ ends.desktop_is in
    let handheld = halted.y_end ∙ c.send_over-2.ensures.other_end ∙ c.send_over.ensures.own_end ∙ ends.handheld_is in
    let desktop = halted.x_end ∙ c.send_over-2.ensures.own_end ∙ d_end in
    let later : Apart c.settle.new.x.end c.settle.new.y.end = apart_turned (ends-apart c.settle.new.y c.settle.new.x handheld desktop) in
    let rate : c.rate_of-rate.result ≡ 9600 = c.rate_of-rate.ensures wake c.greeting-wake.result first.whole c.greeting-wake.ensures.text in
    let init_is = c.greeting-init.ensures.bytes ∙ ap (λ r. hello_bytes (record { kind = Init; flags = 0; minor = 1; rate = r }) (0 ∷ 0 ∷ [])) rate in
    rw (p.1, p.2) (λ before. record {
      ends = record { handheld_is = handheld; desktop_is = desktop };
      by = halts-turned _ c.settle.new.wire c.settle.new.x c.settle.new.y later halted.by;
      spoke = spoke-turned c.settle.new.wire c.settle.new.x c.settle.new.y later (halted.talks greeted
          (greeted-tells c.send_over-2.new.wire c.send_over-2.new.x c.send_over-2.new.y c.greeting-wake.ensures.bytes init_is
          (greets-tells c.args.line.now c.send_over.new.wire c.send_over-2.new.wire c.send_over-2.new.y c.send_over-2.new.x
          (apart_turned first.turn.settled.apart) ends.handheld_is d_end first.talks second.talks before)));
    })

pub returns-in_err-send_over-2-clause-counted : goal.returns-in_err-send_over-2-clause-counted
returns-in_err-send_over-2-clause-counted c counted =
    counted_turned (c.send_over-2.ensures.counted (counted_turned (c.send_over.ensures.counted counted)))

pub returns-in_err-settle-clause-counted : goal.returns-in_err-settle-clause-counted
returns-in_err-settle-clause-counted c counted =
    counted_turned (c.settle.ensures.counted (c.send_over-2.ensures.counted (counted_turned (c.send_over.ensures.counted counted))))

pub returns-clause-counted : goal.returns-clause-counted
returns-clause-counted c counted =
    counted_turned (c.settle.ensures.counted (c.send_over-2.ensures.counted (counted_turned (c.send_over.ensures.counted counted))))
