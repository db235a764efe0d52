use Rattle.std.proofs.lemmas.Result.{err_from_is_err_and}
use Rattle.slp_frames.specs.PacketValues.{lent_value}
use Rattle.slp_frames.proofs.StreamLaws.{gains_front}
use Rattle.slp_frames.proofs.stream.drain.Goals as goal

pub returns-in_err-take-clause-err : goal.returns-in_err-take-clause-err
returns-in_err-take-clause-err g c =
    let p = err_from_is_err_and c.from_residual.result c.from_residual.ensures.1 in
    let before = c.loop-packet.invariant in
    let step = rw c.in-Some.is at (c.next.follows.holds-at-none.continues c.args.reader.now.held before.handed before.continues) in
    rw (p.1, c.in_err-take.ensures.err) (gains_front (lent_value c.in-Some.packet) before step)
