use Rattle.std.proofs.Common.{◌≡◌, ◌⊎◌, ◌+◌, true, List, ◌∷◌, [], ◌++◌, Some, inl, inr, ap, ◌∙◌, arith}
use Rattle.std.proofs.lemmas.Bool.{and_parts, cond-true}
use Rattle.std.proofs.lemmas.List.{length-append}
use Rattle.padp_link.specs.FragmentText.{FragmentValue}
use Rattle.padp_link.specs.Collecting.{taken_pieces, data_fragment}
use Rattle.padp_link.specs.Receivers.{ReceiverValue, is_next_piece, with_piece}
use Rattle.padp_link.proofs.CollectingLaws.{holds_more}
use Rattle.padp_link.proofs.receiver.Receiver.take_next.Goals as goal
use Rattle.padp_link.proofs.receiver.Receiver.take_next.Goals.{then-self-eq0, else-self-eq0}

pub invariant_of-self : goal.invariant_of-self
invariant_of-self c =
    let key = c.args.key in
    let part = c.args.bytes.now in
    let size = c.self.inside.length in
    let count = c.self.inside.taken in
    let bytes = c.self.inside.message.items in
    let choice : ((count ≡ 0) × (c.if-self-eq0.length ≡ key.size)) ⊎ ((count ≡ 0 → ⊥) × (c.if-self-eq0.length ≡ size)) = elim c.if-self-eq0.branch [
      | then-self-eq0 w ↦ inl (w.if-self-eq0.true, w.length-is)
      | else-self-eq0 w ↦ inr (w.if-self-eq0.false, w.length-is)
    ] in
    let next : is_next_piece (taken_pieces size count bytes) (data_fragment key part) ≡ true = ap
    (λ (r : ReceiverValue). is_next_piece r.pieces (data_fragment key part)) c.self.view_is
    ∙ (and_parts _ (is_next_piece c.args.self.now.pieces (data_fragment key part)) c.requires.next).1 in
    let more = holds_more count bytes part key choice c.self.invariant.has_all (omega arith) c.requires.fragment next in
    let ok = c.extend_from_slice.ensures.succeeds (omega (arith, more.reaches, length-append bytes part, c.self.invariant.room)) in
    let new : c.extend_from_slice.new.self.items ≡ bytes ++ part = c.extend_from_slice.ensures.items ∙ cond-true _ _ _ ok in
    record { count_fits = more.counts; has_all = rw new more.reaches; room = omega (arith, c.self.invariant.room, c.extend_from_slice.ensures.capacity) }

pub returns : goal.returns
returns c =
    let key = c.args.key in
    let part = c.args.bytes.now in
    let size = c.self.inside.length in
    let count = c.self.inside.taken in
    let bytes = c.self.inside.message.items in
    let choice : ((count ≡ 0) × (c.if-self-eq0.length ≡ key.size)) ⊎ ((count ≡ 0 → ⊥) × (c.if-self-eq0.length ≡ size)) = elim c.if-self-eq0.branch [
      | then-self-eq0 w ↦ inl (w.if-self-eq0.true, w.length-is)
      | else-self-eq0 w ↦ inr (w.if-self-eq0.false, w.length-is)
    ] in
    let next : is_next_piece (taken_pieces size count bytes) (data_fragment key part) ≡ true = ap
    (λ (r : ReceiverValue). is_next_piece r.pieces (data_fragment key part)) c.self.view_is
    ∙ (and_parts _ (is_next_piece c.args.self.now.pieces (data_fragment key part)) c.requires.next).1 in
    let more = holds_more count bytes part key choice c.self.invariant.has_all (omega arith) c.requires.fragment next in
    let ok = c.extend_from_slice.ensures.succeeds (omega (arith, more.reaches, length-append bytes part, c.self.invariant.room)) in
    let new : c.extend_from_slice.new.self.items ≡ bytes ++ part = c.extend_from_slice.ensures.items ∙ cond-true _ _ _ ok in
    let pieces : taken_pieces c.if-self-eq0.length (count + 1) c.extend_from_slice.new.self.items
    ≡ taken_pieces size count bytes ++ data_fragment key part ∷ [] = rw new more.pieces in
    ap (λ (ps : List FragmentValue). let r : ReceiverValue = record { awaited = c.self.inside.awaited; pieces = ps; last = Some key } in r) pieces
    ∙ ap (λ (r : ReceiverValue). with_piece r key.id (data_fragment key part)) c.self.view_is
