use Rattle.std.proofs.Common.{◌≡◌, ℕ, length, sym, ap, ◌∙◌, arith}
use Rattle.padp_link.specs.FragmentValues.{fragment_value}
use Rattle.padp_link.specs.Receivers.{ReceiverValue, goes_on, is_next_piece}
use Rattle.padp_link.proofs.CollectingLaws.{is_next_piece-later}
use Rattle.padp_link.proofs.receiver.Receiver.is_next_piece.Goals as goal

pub returns : goal.returns
returns c =
    let size = c.self.inside.length in
    let bytes = c.self.inside.message.items in
    let fragment = fragment_value c.args.fragment.now in
    let later = is_next_piece-later size c.self.inside.taken bytes fragment c.if-self-eq0.false c.self.invariant.has_all in
    let len : c.len.result ≡ length bytes = omega arith in
    c.goes_on.ensures
    ∙ ap (λ (n : ℕ). goes_on n c.len.result fragment) c.from.ensures
    ∙ ap (λ (n : ℕ). goes_on size n fragment) len
    ∙ sym later
    ∙ ap (λ (r : ReceiverValue). is_next_piece r.pieces fragment) c.self.view_is
