-- The frames up to this one were walked.
use Rattle.std.proofs.Common.{◌≡◌, map}
use Rattle.trace_text.specs.TraceLines.{frame_value}
use Rattle.trace_check.proofs.turns.judge_turns.Given as goal
use Rattle.trace_check.specs.BothEnds.{both_value}
use Rattle.trace_check.specs.Turns.{IsWalked}

abbrev pub invariant-loop-frame : goal.invariant-loop-frame
invariant-loop-frame l = record {
  walked : IsWalked (map frame_value l.frames) l.frame-index (both_value l.both) l.knows l.answers;
  number_is : l.number ≡ l.frame-index;
}
