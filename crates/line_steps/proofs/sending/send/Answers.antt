use Rattle.line_steps.proofs.Names.{◌<◌, length, sym, subst, ◌∙◌, fragment_value}
use Rattle.line_steps.proofs.BytesLaws.{packet_some}
use Rattle.line_steps.proofs.sending.send.Goals as goal

-- src/sending.rt:47:9
pub stop_of-stop-requires-clause-some : goal.stop_of-stop-requires-clause-some
stop_of-stop-requires-clause-some c =
    subst (λ s. 0 < length s) (sym (c.as_slice.ensures.value ∙ c.write_with.ensures.bytes)) (packet_some c.args.id (fragment_value c.args.fragment.now))
