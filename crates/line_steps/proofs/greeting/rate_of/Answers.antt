use Rattle.line_steps.proofs.TalkNames.{◌≡◌, Some, sym, ap, subst, ◌∙◌, HelloText}
use Rattle.line_steps.proofs.greeting.rate_of.Goals as goal

pub returns-in-Ok : goal.returns-in-Ok
returns-in-Ok c hello bytes whole text =
    let there : Some c.in-Some.bytes.now ≡ Some bytes = c.in-Some.ensures.message ∙ whole in
    let same : c.in-Some.bytes.now ≡ bytes = cc in
    let read = c.in-Ok.ensures.only hello (subst (λ b. HelloText hello b) (sym same) text) in
    let is : c.in-Ok.hello ≡ hello = cc in
    ap (λ h. h.rate) is
