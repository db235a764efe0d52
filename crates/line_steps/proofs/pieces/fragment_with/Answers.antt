use Rattle.line_steps.proofs.Names.{◌+◌, length, sym, ap, ◌∙◌, subst, arith, IsFragment}
use Rattle.line_steps.proofs.PieceLaws.{is_piece, piece_bytes, with_bytes}
use Rattle.line_steps.proofs.pieces.fragment_with.Goals as goal

-- src/pieces.rt:50:16
pub slice_bounds-result-end : goal.slice_bounds-result-end
slice_bounds-result-end c =
    let it = is_piece c.requires.half c.requires.waits in
    omega (arith, c.from-place.ensures, c.from.ensures, it.within, ap length c.bytes.ensures.bytes)

-- src/pieces.rt:37:1
pub returns-clause-part : goal.returns-clause-part
returns-clause-part c =
    let it = is_piece c.requires.half c.requires.waits in
    let bytes = piece_bytes c.args.piece c.bytes.ensures.bytes c.from-place.ensures (ap (λ n. c.from-place.result + n) c.from.ensures) in
    with_bytes c.args.half.now.message c.args.piece bytes ∙ it.part_is

-- src/pieces.rt:37:1
pub returns-clause-fragment : goal.returns-clause-fragment
returns-clause-fragment c =
    let it = is_piece c.requires.half c.requires.waits in
    let bytes = piece_bytes c.args.piece c.bytes.ensures.bytes c.from-place.ensures (ap (λ n. c.from-place.result + n) c.from.ensures) in
    subst (λ f. IsFragment f) (sym (with_bytes c.args.half.now.message c.args.piece bytes ∙ it.part_is)) it.fragment

-- src/pieces.rt:37:1
pub returns-clause-id : goal.returns-clause-id
returns-clause-id c = (is_piece c.requires.half c.requires.waits).id_is
