use Rattle.std.proofs.Common.{drop, map}
use Rattle.trace_text.specs.Frames.{came_in}
use Rattle.trace_text.specs.TraceLines.{frame_value}
use Rattle.trace_check.proofs.AckingLaws.{Acked}
use Rattle.trace_check.proofs.acking.count_acks.Given as goal

abbrev pub invariant-loop-frame : goal.invariant-loop-frame
invariant-loop-frame l =
    Acked l.fn.from l.by (came_in (map frame_value l.frames)) l.data_frames (map frame_value l.frames) l.frame-index l.acks
    (map frame_value (drop l.frame-index l.frames))
