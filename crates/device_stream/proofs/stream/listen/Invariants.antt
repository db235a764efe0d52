use Rattle.std.proofs.Common.{◌≡◌, ℕ, ◌+◌, List, ◌++◌, length}
use Rattle.std.specs.Option.{option_map}
use Rattle.slp_frames.specs.Streams.{IsDrained}
use Rattle.device_stream.specs.Courses.{Hears, IsReady, PerformsAny}
use Rattle.device_stream.specs.Runs.{stream_limit}
use Rattle.device_stream.proofs.stream.listen.Given as goal

abbrev pub invariant-loop-left : goal.invariant-loop-left
invariant-loop-left g l = record {
  ready : IsReady l.talk;
  drained : IsDrained l.reader.held;
  bytes : (bytes : List ℕ) × (g.S.Source.left l.initial.source ≡ option_map (λ rest. bytes ++ rest) (g.S.Source.left l.source))
      × (length bytes + l.left ≡ stream_limit)
      × Hears bytes l.reader.held l.initial.talk.hand l.talk.hand (g.T.Sink.taken l.initial.sink) (g.T.Sink.taken l.sink);
  performs : PerformsAny g.F.Folder.contents g.F.Folder.moments g.F.Folder.paths g.F.Folder.faults l.initial.talk l.talk;
  keeper : g.F.Folder.faults l.talk.folder ≡ g.F.Folder.faults l.initial.talk.folder;
  source : g.S.Source.faults l.source ≡ g.S.Source.faults l.initial.source;
  sink : g.T.Sink.faults l.sink ≡ g.T.Sink.faults l.initial.sink;
  source_path : g.S.Source.paths l.source ≡ g.S.Source.paths l.initial.source;
  sink_path : g.T.Sink.paths l.sink ≡ g.T.Sink.paths l.initial.sink;
}

abbrev pub decreases-loop-left : goal.decreases-loop-left
decreases-loop-left g l = l.left
