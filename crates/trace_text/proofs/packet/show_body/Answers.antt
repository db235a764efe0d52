use Rattle.std.proofs.Common.{◌≡◌, string_bytes}
use Rattle.std.proofs.lemmas.Result.{IfOk-weaker}
use Rattle.padp_link.specs.FragmentValues.{fragment_value}
use Rattle.trace_text.specs.PacketLines.{ShowsBody, fragment_words}
use Rattle.trace_text.proofs.BodyLaws.{shows-fragment}
use Rattle.trace_text.proofs.packet.show_body.Goals as goal

-- src/packet.rt:34:1
pub returns-in-Ok : goal.returns-in-Ok
returns-in-Ok c =
    let read = fragment_value c.in-Ok.fragment in
    IfOk-weaker c.fragment_words.result (λ text. string_bytes text ≡ fragment_words read) (λ text. ShowsBody c.args.body.now (string_bytes text))
    (λ text is. shows-fragment c.args.body.now (string_bytes text) read c.in-Ok.ensures.fragment c.in-Ok.ensures.only is) c.fragment_words.ensures
