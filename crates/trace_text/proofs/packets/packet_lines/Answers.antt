use Rattle.std.proofs.Common.{◌++◌, take}
use Rattle.std.proofs.lemmas.List.{take_rest}
use Rattle.slp_frames.proofs.StreamLaws.{piece_parts}
use Rattle.trace_text.proofs.ListLaws.{shown-feed}
use Rattle.trace_text.proofs.packets.packet_lines.Goals as goal

pub loop-rest-preserved : goal.loop-rest-preserved
loop-rest-preserved c =
    let before = c.loop-rest.invariant.1 in
    let rest = c.loop-rest.rest.now in
    let bytes = take c.feed-count.result rest in
    let fed = rw (← c.feed-count.ensures.held) at (shown-feed before.0 bytes _ _ before.2) in (
      c.in_ok-push_held.ensures.drained,
      (
        before.0 ++ bytes,
        rw take_rest (piece_parts c.args.bytes.now before.0 rest c.feed-count.result before.1),
        c.in_ok-push_held.ensures.shown (before.0 ++ bytes) fed,
      ),
    )
