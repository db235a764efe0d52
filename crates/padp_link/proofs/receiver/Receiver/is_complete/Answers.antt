use Rattle.std.proofs.Common.{◌≡◌, ℕ, Bool, false, not, ◌&&◌, nat_eq, length, sym, ap, ◌∙◌, arith}
use Rattle.std.proofs.lemmas.Bool.{ne_eqb}
use Rattle.padp_link.specs.Receivers.{ReceiverValue, is_complete}
use Rattle.padp_link.proofs.CollectingLaws.{is_complete-held}
use Rattle.padp_link.proofs.receiver.Receiver.is_complete.Goals as goal

pub returns-then-self-ne0 : goal.returns-then-self-ne0
returns-then-self-ne0 c =
    let size = c.self.inside.length in
    let count = c.self.inside.taken in
    let bytes = c.self.inside.message.items in
    let some : nat_eq count 0 ≡ false = ne_eqb count 0 c.if-self-ne0.true in
    let held = is_complete-held size count bytes c.self.invariant.has_all in
    let test : (not (nat_eq count 0) && nat_eq (length bytes) size) ≡ nat_eq (length bytes) size = ap (λ (b : Bool). not b && nat_eq (length bytes) size)
    some in
    let len : c.len.result ≡ length bytes = omega arith in
    ap (λ (n : ℕ). nat_eq n c.from.result) len ∙ ap (λ (n : ℕ). nat_eq (length bytes) n) c.from.ensures
    ∙ sym test ∙ sym held ∙ ap (λ (r : ReceiverValue). is_complete r.pieces) c.self.view_is
