use Rattle.std.proofs.Common.{length}
use Rattle.slp_frames.specs.PacketScan.{scan}
use Rattle.slp_frames.specs.Streams.{Gains}
use Rattle.slp_frames.proofs.stream.drain.Given as goal

abbrev pub invariant-loop-packet : goal.invariant-loop-packet
invariant-loop-packet g l = Gains l.initial.reader.held (g.S.PacketSink.taken l.initial.sink) (g.S.PacketSink.taken l.sink) l.reader.held

-- the packets that are held
abbrev pub decreases-loop-packet : goal.decreases-loop-packet
decreases-loop-packet g l = length (scan l.reader.held)
