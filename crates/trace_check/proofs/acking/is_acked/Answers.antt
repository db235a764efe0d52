-- The acknowledgements are as many as the data frames that came, or one less.
use Rattle.std.proofs.Common.{◌≡◌, ◌+◌, ◌⊎◌, length, ap, subst, sym, ◌∙◌, map, arith}
use Rattle.std.specs.Prelude.{reverse}
use Rattle.trace_text.specs.Frames.{came_in}
use Rattle.trace_text.specs.TraceLines.{frame_value}
use Rattle.trace_check.proofs.AckingLaws.{acked-enough}
use Rattle.trace_check.proofs.acking.is_acked.Goals as goal

pub returns : goal.returns
returns c =
    let frames = map frame_value c.args.frames.now in
    let data_frames = c.deref.result.now in
    let all = ap reverse c.deref.ensures.value ∙ c.in_ok-data_frames.ensures in
    let len : c.len.result ≡ length data_frames = omega (arith, c.len.ensures, c.deref.ensures.len) in
    let enough = acked-enough c.args.from c.args.by (came_in frames) data_frames frames c.in-Some.acked all c.in-Some.ensures.inside c.in-Some.ensures.some in (
      λ is. enough.1 (subst (λ n. (c.in-Some.acked ≡ n) ⊎ (c.in-Some.acked + 1 ≡ n)) len (c.is_enough.ensures.0 is)),
      λ acked. c.is_enough.ensures.1 (subst (λ n. (c.in-Some.acked ≡ n) ⊎ (c.in-Some.acked + 1 ≡ n)) (sym len) (enough.0 acked)),
    )
