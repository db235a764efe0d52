use Rattle.std.proofs.Common.{arith}
use Rattle.std.proofs.lemmas.List.{take_all}
use Rattle.std.proofs.lemmas.Result.{err_from_is_err_and}
use Rattle.slp_frames.proofs.StreamLaws.{gains_all, gains_front_then, gains_front_append, pieces_at}
use Rattle.slp_frames.proofs.stream.read_pieces.Goals as goal

pub returns-in_err-read_piece-clause-err : goal.returns-in_err-read_piece-clause-err
returns-in_err-read_piece-clause-err g c =
    let p = err_from_is_err_and c.from_residual.result c.from_residual.ensures.1 in
    let pieces = c.args.pieces.now in
    let parts = rw (← c.piece-item.is) at (pieces_at (λ piece. piece.items) pieces c.loop-piece.piece-index c.piece-item.result (omega arith)) in
    let front = gains_front_then _ c.loop-piece.invariant.1 (rw c.deref.ensures.value at c.in_err-read_piece.ensures.err) in
    rw p.1 (gains_front_append _ parts front)

pub returns-clause-ok : goal.returns-clause-ok
returns-clause-ok g c =
    let gains = rw (take_all c.loop-piece.piece-index c.args.pieces.now (omega arith)) at c.loop-piece.invariant.1 in
    gains_all gains c.loop-piece.invariant.0.all
