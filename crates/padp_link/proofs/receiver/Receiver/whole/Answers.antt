use Rattle.std.proofs.Common.{◌≡◌, true, List, ℕ, Some, sym, ap, ◌∙◌}
use Rattle.padp_link.specs.Collecting.{taken_pieces}
use Rattle.padp_link.specs.Pieces.{fragments}
use Rattle.padp_link.specs.Receivers.{ReceiverValue, is_complete, whole_of}
use Rattle.padp_link.proofs.ReceiverLaws.{whole_of-held, whole_pieces}
use Rattle.padp_link.proofs.receiver.Receiver.whole.Goals as goal

pub returns-clause-message : goal.returns-clause-message
returns-clause-message c =
    let size = c.self.inside.length in
    let count = c.self.inside.taken in
    let bytes = c.self.inside.message.items in
    let complete : is_complete (taken_pieces size count bytes) ≡ true = ap (λ (r : ReceiverValue). is_complete r.pieces) c.self.view_is
    ∙ sym c.is_complete.ensures ∙ c.if-not-is_complete.false in
    ap (λ (s : List ℕ). Some s) c.as_slice.ensures.value ∙ sym (whole_of-held size count bytes c.self.invariant.has_all complete)
    ∙ ap (λ (r : ReceiverValue). whole_of r.pieces) c.self.view_is

pub returns-clause-pieces : goal.returns-clause-pieces
returns-clause-pieces c id =
    let size = c.self.inside.length in
    let count = c.self.inside.taken in
    let bytes = c.self.inside.message.items in
    let complete : is_complete (taken_pieces size count bytes) ≡ true = ap (λ (r : ReceiverValue). is_complete r.pieces) c.self.view_is
    ∙ sym c.is_complete.ensures ∙ c.if-not-is_complete.false in
    ap (λ (r : ReceiverValue). r.pieces) (sym c.self.view_is) ∙ whole_pieces size count bytes c.self.invariant.count_fits c.self.invariant.has_all complete id
    ∙ ap (λ (s : List ℕ). fragments id s) (sym c.as_slice.ensures.value)
