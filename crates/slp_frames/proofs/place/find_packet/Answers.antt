use Rattle.std.proofs.lemmas.List.{take_rest}
use Rattle.slp_frames.proofs.ScanLaws.{continues_past_dead}
use Rattle.slp_frames.proofs.place.find_packet.Goals as goal

pub loop-place-preserved : goal.loop-place-preserved
loop-place-preserved c =
    let dead = rw take_rest at c.in-Dead.ensures in
    continues_past_dead c.args.bytes.now c.loop-place.place c.loop-place.invariant dead
