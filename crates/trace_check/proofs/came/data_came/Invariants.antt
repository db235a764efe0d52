use Rattle.std.proofs.Common.{drop, map}
use Rattle.trace_text.specs.TraceLines.{frame_value}
use Rattle.trace_check.proofs.CollectingLaws.{Collected}
use Rattle.trace_check.proofs.came.data_came.Given as goal

abbrev pub invariant-loop-frame : goal.invariant-loop-frame
invariant-loop-frame l =
    Collected l.from (map frame_value l.frames) l.frame-index l.number l.late l.data_frames.items (map frame_value (drop l.frame-index l.frames))
