use Rattle.std.proofs.Common.{◌++◌, ◌∙◌, ap, sym, take, map}
use Rattle.std.proofs.lemmas.Slice.{pushed}
use Rattle.trace_text.specs.TraceLines.{frame_value, trace_text}
use Rattle.trace_text.proofs.TraceLaws.{trace-more}
use Rattle.trace_text.proofs.trace.write_trace.Goals as goal

pub loop-place-preserved : goal.loop-place-preserved
loop-place-preserved c =
    let text = trace_text (map frame_value (take c.loop-place.place c.args.frames.now.items)) in
    pushed c.as_bytes.result.now c.loop-place.invariant c.in_ok-extend_from_slice.was c.extend_from_slice.ensures.items
    ∙ (ap (λ b. text ++ b) (c.as_bytes.ensures.value ∙ c.in_ok-line.ensures) ∙ sym (trace-more c.args.frames.now.items c.loop-place.place c.get.ensures))
