-- The text of one frame more.
use Rattle.std.proofs.Common.{◌≡◌, ℕ, zero, suc, ◌+◌, List, [], ◌∷◌, ◌++◌, take, map, sym, ap, ◌∙◌, add-one}
use Rattle.std.proofs.lemmas.List.{append_assoc, append-nil}
use Rattle.std.specs.Prelude.{Some, slice_get}
use Rattle.trace_text.specs.declared.frame.Frame.{Frame}
use Rattle.trace_text.specs.FrameLogs.{IsFrameAt}
use Rattle.trace_text.specs.TraceLines.{FrameValue, frame_line, frame_value, trace_text}

-- the frames up to the next one, which is this
pub trace-more : (frames : List Frame) (n : ℕ) {next : FrameValue} → IsFrameAt frames n next
    → trace_text (map frame_value (take (n + 1) frames)) ≡ trace_text (map frame_value (take n frames)) ++ frame_line next
trace-more [] n it = absurd (none it.here)
  where
    none : {frame : Frame} → slice_get [] n ≡ Some frame → ⊥
    none here = cc
trace-more (frame ∷ later) zero it =
    append-nil (frame_line (frame_value frame)) ∙ ap frame_line (ap frame_value (first it.here) ∙ sym it.is)
  where
    first : {x y : Frame} → Some x ≡ Some y → x ≡ y
    first same = cc
trace-more (frame ∷ later) (suc n) {next} it =
    rw add-one
    (ap (λ t. frame_line (frame_value frame) ++ t)
    (rw (add-one) at (trace-more later n {next = next} (record { frame = it.frame; here = it.here; is = it.is })))
    ∙ sym (append_assoc (frame_line (frame_value frame)) (trace_text (map frame_value (take n later))) (frame_line next)))
