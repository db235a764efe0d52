use Rattle.std.proofs.Common.{length, map}
use Rattle.trace_text.specs.TraceLines.{frame_value}
use Rattle.trace_check.proofs.TraceLaws.{Goes}
use Rattle.trace_check.proofs.reader.read_trace.Given as goal

abbrev pub invariant-loop-rest : goal.invariant-loop-rest
invariant-loop-rest l = Goes l.bytes (map frame_value l.frames.items) l.rest

abbrev pub decreases-loop-rest : goal.decreases-loop-rest
decreases-loop-rest l = length l.rest
