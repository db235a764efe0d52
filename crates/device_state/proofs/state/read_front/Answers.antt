use Rattle.std.proofs.Common.{◌≡◌, ◌++◌, arith, length, rules}
use Rattle.device_state.specs.Texts.{talk_text}
use Rattle.device_state.proofs.StateLaws.{no-held}
use Rattle.device_state.specs.States.{mark}
use Rattle.device_state.proofs.state.read_front.Goals as goal

pub returns-in_default-next_string-clause-form : goal.returns-in_default-next_string-clause-form
returns-in_default-next_string-clause-form c = λ _ parts held rest eight named whole.
    let front : c.args.state.now ≡ mark ++ c.in-Some.rest.now = search rules in
    let is : c.in-Some.rest.now ≡ talk_text c.in_ok-parts.field-0.parts ++ c.in_ok-parts.field-0.rest.now = search rules in
    let own : length c.in_ok-parts.field-0.parts.handles ≡ 8 = search rules in
    c.next_string.ensures.none c.in_default-next_string.is held rest
    (no-held c.args.state.now c.in-Some.rest.now c.in_ok-parts.field-0.rest.now c.in_ok-parts.field-0.parts parts held rest (omega arith) own eight front is whole)
