-- Each rule is kept.
use Rattle.std.proofs.Common.{◌-◌, ap, ◌∙◌, map}
use Rattle.trace_text.specs.TraceLines.{frame_value}
use Rattle.trace_check.proofs.VerdictLaws.{proper-by}
use Rattle.trace_check.proofs.judge.verdict.Goals as goal

pub returns : goal.returns
returns c =
    let frames = map frame_value c.args.frames.now in (
      proper-by frames (c.end_at_last.ensures.0 c.if-not-end_at_last.false) (c.bear_fragments.ensures.0 c.if-not-bear_fragments.false)
          (c.come_in_order.ensures.0 c.if-not-come_in_order.false) c.in-Some.ensures.keeps
          (c.in_ok-turns.ensures.knows.0 c.if-not-turns.false) (c.in_ok-turns.ensures.answers.0 c.if-not-turns-2.false)
          (c.in_ok-are_acked.ensures.0 c.if-not-branch.false),
      c.saturating_sub.ensures ∙ ap (λ n. n - 1) c.in-Some.ensures.desktop,
      c.saturating_sub-2.ensures ∙ ap (λ n. n - 1) c.in-Some.ensures.handheld,
    )
