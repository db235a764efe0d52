use Rattle.std.proofs.Common.{length}
use Rattle.std.specs.Prelude.{Some}
use Rattle.slp_frames.specs.PacketScan.{scan}
use Rattle.device_stream.specs.Courses.{Hears, IsReady, PerformsAny}
use Rattle.device_state.proofs.hearing.drain.Given as goal

abbrev pub invariant-loop-packet : goal.invariant-loop-packet
invariant-loop-packet g l = record {
  ready : IsReady l.talk;
  hears : Hears l.initial.reader.held l.reader.held l.initial.talk.hand l.talk.hand (Some l.initial.said.items) (Some l.said.items);
  performs : PerformsAny g.F.Folder.contents g.F.Folder.moments g.F.Folder.paths g.F.Folder.faults l.initial.talk l.talk;
}

-- the packets that are held
abbrev pub decreases-loop-packet : goal.decreases-loop-packet
decreases-loop-packet g l = length (scan l.reader.held)
