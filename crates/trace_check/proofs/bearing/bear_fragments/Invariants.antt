use Rattle.std.specs.List.{AllByRecursion}
use Rattle.std.specs.Prelude.{map}
use Rattle.trace_text.specs.Frames.{BearsFragment}
use Rattle.trace_text.specs.TraceLines.{frame_value}
use Rattle.trace_check.proofs.WalkLaws.{IsLeft}
use Rattle.trace_check.proofs.bearing.bear_fragments.Given as goal

abbrev pub invariant-loop-frame : goal.invariant-loop-frame
invariant-loop-frame l =
    IsLeft frame_value l.frames l.frame-index (AllByRecursion BearsFragment (map frame_value l.frames)) (AllByRecursion BearsFragment)
