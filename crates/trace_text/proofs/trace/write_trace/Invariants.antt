use Rattle.std.proofs.Common.{◌≡◌, take, map}
use Rattle.trace_text.specs.TraceLines.{frame_value, trace_text}
use Rattle.trace_text.proofs.trace.write_trace.Given as goal

abbrev pub invariant-loop-place : goal.invariant-loop-place
invariant-loop-place l = l.text.items ≡ trace_text (map frame_value (take l.place l.frames.items))
