use Rattle.std.proofs.Common.{◌≡◌, length}
use Rattle.slp_frames.specs.PacketScan.{scan}
use Rattle.device_stream.specs.Courses.{Hears, IsReady, PerformsAny}
use Rattle.device_stream.proofs.hearing.drain.Given as goal

abbrev pub invariant-loop-packet : goal.invariant-loop-packet
invariant-loop-packet g l = record {
  ready : IsReady l.talk;
  hears : Hears l.initial.reader.held l.reader.held l.initial.talk.hand l.talk.hand (g.T.Sink.taken l.initial.sink) (g.T.Sink.taken l.sink);
  performs : PerformsAny g.F.Folder.contents g.F.Folder.moments g.F.Folder.paths g.F.Folder.faults l.initial.talk l.talk;
  keeper : g.F.Folder.faults l.talk.folder ≡ g.F.Folder.faults l.initial.talk.folder;
  sink : g.T.Sink.faults l.sink ≡ g.T.Sink.faults l.initial.sink;
  paths : g.T.Sink.paths l.sink ≡ g.T.Sink.paths l.initial.sink;
}

-- the packets that are held
abbrev pub decreases-loop-packet : goal.decreases-loop-packet
decreases-loop-packet g l = length (scan l.reader.held)
