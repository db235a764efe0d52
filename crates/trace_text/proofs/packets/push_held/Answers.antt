use Rattle.std.specs.Prelude.{string_bytes}
use Rattle.std.proofs.lemmas.List.{map-append}
use Rattle.slp_frames.specs.PacketValues.{lent_value}
use Rattle.trace_text.proofs.ListLaws.{shown-packet}
use Rattle.trace_text.proofs.packets.push_held.Goals as goal

pub loop-packet-preserved : goal.loop-packet-preserved
loop-packet-preserved c taken before =
    rw (c.in_ok-push.ensures.items, map-append)
    (shown-packet taken _ _ _ (lent_value c.in-Some.packet) (string_bytes c.in_ok-line.line) (c.loop-packet.invariant taken before)
    (λ handed continues. rw c.in-Some.is at (c.next.follows.holds-at-none.continues taken handed continues)) c.in_ok-line.ensures)
