use Rattle.std.proofs.Common.{drop, map}
use Rattle.trace_text.specs.TraceLines.{frame_value}
use Rattle.trace_check.proofs.TalkingLaws.{Talked}
use Rattle.trace_check.proofs.talking.whole_messages.Given as goal

abbrev pub invariant-loop-frame : goal.invariant-loop-frame
invariant-loop-frame l = Talked (map frame_value l.frames) l.frame-index l.talking (map frame_value (drop l.frame-index l.frames))
