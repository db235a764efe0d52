use Rattle.std.proofs.Common.{◌≡◌, ℕ, List, ◌++◌, length}
use Rattle.slp_frames.specs.Streams.{IsDrained}
use Rattle.device_stream.specs.Courses.{Hears, IsReady, PerformsAny}
use Rattle.device_stream.proofs.hearing.take_piece.Given as goal

abbrev pub invariant-loop-rest : goal.invariant-loop-rest
invariant-loop-rest g l = record {
  ready : IsReady l.talk;
  drained : IsDrained l.reader.held;
  part : (part : List ℕ) × (l.piece ≡ part ++ l.rest) × Hears (l.initial.reader.held ++ part) l.reader.held l.initial.talk.hand l.talk.hand
      (g.T.Sink.taken l.initial.sink) (g.T.Sink.taken l.sink);
  performs : PerformsAny g.F.Folder.contents g.F.Folder.moments g.F.Folder.paths g.F.Folder.faults l.initial.talk l.talk;
  keeper : g.F.Folder.faults l.talk.folder ≡ g.F.Folder.faults l.initial.talk.folder;
  sink : g.T.Sink.faults l.sink ≡ g.T.Sink.faults l.initial.sink;
  paths : g.T.Sink.paths l.sink ≡ g.T.Sink.paths l.initial.sink;
}

abbrev pub decreases-loop-rest : goal.decreases-loop-rest
decreases-loop-rest g l = length l.rest
