use Rattle.std.proofs.Common.{◌≡◌, ℕ, List, [], ◌++◌, length}
use Rattle.std.specs.Prelude.{None, Some, true}
use Rattle.slp_frames.specs.Streams.{IsDrained}
use Rattle.device_stream.specs.Courses.{Hears, PerformsAny}
use Rattle.device_state.proofs.hearing.hear.Given as goal

abbrev pub invariant-loop-talk : goal.invariant-loop-talk
invariant-loop-talk g l = record {
  sound : l.talk.sound ≡ true;
  drained : l.talk.hand.over ≡ None → IsDrained l.reader.held;
  part : (part : List ℕ) × (l.bytes ≡ part ++ l.rest) × Hears part l.reader.held l.initial.talk.hand l.talk.hand (Some []) (Some l.said.items);
  performs : PerformsAny g.F.Folder.contents g.F.Folder.moments g.F.Folder.paths g.F.Folder.faults l.initial.talk l.talk;
}

abbrev pub decreases-loop-talk : goal.decreases-loop-talk
decreases-loop-talk g l = length l.rest
