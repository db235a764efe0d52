use Rattle.std.proofs.Common.{◌∙◌, ◌+◌, ◌-◌, ◌*◌, ◌++◌, ap, append_assoc, arith, sym, List, [], ◌∷◌, ℕ}
use Rattle.std.specs.Fmt.{decimal}
use Rattle.std.specs.Prelude.{codes, string_bytes}
use Rattle.cmd_session.specs.Makes.{losses, script_text}
use Rattle.cmd_session.proofs.MakeScripts.{losses_grow, losses_whole}
use Rattle.cmd_session.proofs.make.losing_text.Goals as goal

pub loop-place-preserved : goal.loop-place-preserved
loop-place-preserved c =
    let place = c.loop-place.place in
    let line : List ℕ = decimal (20 * (place + 1)) ++ (codes " lost" ++ 10 ∷ []) in
    ap (λ (l : List ℕ). l ++ script_text (losses (20 * (place + 1 + 1)) (1000 - (place + 1)))) c.in_ok-write.ensures.bytes
    ∙ losses_grow (string_bytes c.loop-place.text) line place c.loop-place-test.true
    (sym (append_assoc (decimal (20 * (place + 1))) (codes " lost") (10 ∷ []))) c.loop-place.invariant

pub returns : goal.returns
returns c =
    let test = c.loop-place-test.false in
    losses_whole (string_bytes c.loop-place.text) c.loop-place.place (omega arith) c.loop-place.invariant
