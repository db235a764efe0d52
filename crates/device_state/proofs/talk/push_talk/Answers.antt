-- The four pieces are appended one by one.
use Rattle.std.proofs.Common.{◌≡◌, ◌∙◌, ◌++◌, ap}
use Rattle.device_state.specs.Strings.{string_text}
use Rattle.device_state.specs.Numbers.{numbers_text}
use Rattle.device_state.proofs.TextLaws.{append-talk_text}
use Rattle.device_state.proofs.talk.push_talk.Goals as goal

pub returns-clause-ok : goal.returns-clause-ok
returns-clause-ok c =
    let parts = c.args.parts.now in
    let old = c.args.out.now.items in
    let one : c.push_string.new.out.items ≡ old ++ string_text (numbers_text parts) =
    c.in_ok-push_string.ensures.ok ∙ ap (λ s. old ++ string_text s) c.numbers_of.ensures in
    let written : c.push_string-3.new.out.items ≡ old ++ string_text (numbers_text parts) ++ string_text parts.end.receiver.received.items
    ++ string_text parts.end.message.items =
    cc (c.in_ok-push_string-2.ensures.ok, c.in_ok-push_string-3.ensures.ok, c.deref.ensures.value, c.deref-2.ensures.value) in
    rw (written, append-talk_text parts old) at c.push_handles.ensures.ok
