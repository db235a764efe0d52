use Rattle.std.proofs.Common.{ℕ, List, ◌++◌, take, drop, sym, ap, ◌∙◌}
use Rattle.std.proofs.lemmas.List.{append_assoc, take_rest}
use Rattle.std.proofs.lemmas.Result.{err_from_is_err_and}
use Rattle.slp_frames.proofs.StreamLaws.{gains_then, gains_front_then, gains_front_append, piece_parts}
use Rattle.slp_frames.proofs.stream.read_piece.Goals as goal

pub loop-rest-preserved : goal.loop-rest-preserved
loop-rest-preserved g c =
    let before = c.loop-rest.invariant.1 in
    let rest = c.loop-rest.rest.now in
    let bytes = take c.feed-count.result rest in
    let gains = gains_then bytes before.2 (rw c.feed-count.ensures.held at c.in_ok-drain.ensures.ok) in (
      c.in_ok-drain.ensures.drained,
      (
        before.0 ++ bytes,
        rw take_rest (piece_parts c.args.piece.now before.0 rest c.feed-count.result before.1),
        rw (← append_assoc) gains,
      ),
    )

pub returns-in_err-drain-clause-err : goal.returns-in_err-drain-clause-err
returns-in_err-drain-clause-err g c =
    let p = err_from_is_err_and c.from_residual.result c.from_residual.ensures.1 in
    let before = c.loop-rest.invariant.1 in
    let rest = c.loop-rest.rest.now in
    let held = c.args.reader.now.held in
    let bytes = take c.feed-count.result rest in
    let left = drop c.feed-count.result rest in
    let parts = ap (λ (s : List ℕ). held ++ s) (piece_parts c.args.piece.now before.0 rest c.feed-count.result before.1)
    ∙ sym (append_assoc held (before.0 ++ bytes) left) ∙ ap (λ (s : List ℕ). s ++ left) (sym (append_assoc held before.0 bytes)) in
    let front = gains_front_then bytes before.2 (rw c.feed-count.ensures.held at c.in_err-drain.ensures.err) in
    rw p.1 (gains_front_append left parts front)
