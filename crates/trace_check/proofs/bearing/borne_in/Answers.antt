-- A packet with a fragment goes between the sockets of the link, and its body is the fragment's text.
use Rattle.std.proofs.Common.{sym, ap, subst}
use Rattle.slp_frames.specs.PacketText.{PacketValue}
use Rattle.padp_link.specs.FragmentText.{FragmentText}
use Rattle.trace_check.proofs.BearingLaws.{bears-found}
use Rattle.trace_check.proofs.bearing.borne_in.Goals.{then-packet-ne-SOCKET-via-then-packet-ne-SOCKET, then-packet-ne-SOCKET-via-else-packet-ne-SOCKET+then-packet-ne-SOCKET-2, then-packet-ne-SOCKET-via-else-packet-ne-SOCKET+else-packet-ne-SOCKET-2+then-packet-ne-PACKET_TYPE}
use Rattle.trace_check.proofs.bearing.borne_in.Goals as goal

pub returns-then-packet-ne-SOCKET-clause-none : goal.returns-then-packet-ne-SOCKET-clause-none
returns-then-packet-ne-SOCKET-clause-none c id fragment bears =
    let same = bears-found bears c.in_ok-packet.ensures.some in
    elim c.then-packet-ne-SOCKET.branch [
      | then-packet-ne-SOCKET-via-then-packet-ne-SOCKET w ↦ w.if-packet-ne-SOCKET.true (ap (λ (p : PacketValue). p.dest) same)
      | then-packet-ne-SOCKET-via-else-packet-ne-SOCKET+then-packet-ne-SOCKET-2 w ↦ w.if-packet-ne-SOCKET-2.true (ap (λ (p : PacketValue). p.source) same)
      | then-packet-ne-SOCKET-via-else-packet-ne-SOCKET+else-packet-ne-SOCKET-2+then-packet-ne-PACKET_TYPE w ↦
          w.if-packet-ne-PACKET_TYPE.true (ap (λ (p : PacketValue). p.kind) same)
    ]

pub returns-in_default-clause-none : goal.returns-in_default-clause-none
returns-in_default-clause-none c id fragment bears =
    let same = bears-found bears c.in_ok-packet.ensures.some in
    c.in_default.ensures.only fragment (subst (FragmentText fragment) (sym (ap (λ (p : PacketValue). p.body) same)) bears.text)
