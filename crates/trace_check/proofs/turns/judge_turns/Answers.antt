-- A frame goes on with the walk, and an abort ends it.
use Rattle.std.proofs.Common.{◌≡◌, ◌+◌, ◌&&◌, map, drop, refl, sym, ap, subst, ◌∙◌, arith}
use Rattle.trace_text.specs.TraceLines.{frame_value}
use Rattle.trace_check.proofs.TurnLaws.{drop_at, bears-next, walk_goes, walk_aborts}
use Rattle.trace_check.proofs.turns.judge_turns.Goals.{then-knows, else-knows, then-answers, else-answers}
use Rattle.trace_check.proofs.turns.judge_turns.Goals as goal
use Rattle.trace_check.specs.Notices.{IsNoticeOf}
use Rattle.trace_check.specs.BothEnds.{both_value}
use Rattle.trace_check.specs.Turns.{IsWalked, answers_after, knows_after}

pub notice_of-requires : goal.notice_of-requires
notice_of-requires c =
    bears-next (map frame_value c.args.frames.now) c.loop-frame.frame-index c.requires.bear
    (drop_at c.args.frames.now c.loop-frame.frame-index c.frame-item.result c.loop-frame-test.true c.frame-item.is)

pub returns-in_default-clause-knows : goal.returns-in_default-clause-knows
returns-in_default-clause-knows c =
    (walk_aborts (map frame_value c.args.frames.now) c.loop-frame.frame-index (frame_value c.frame-item.result) _ (both_value c.loop-frame.both)
    c.loop-frame.knows c.loop-frame.answers c.requires.numbered c.requires.bear c.loop-frame.invariant.walked
    (drop_at c.args.frames.now c.loop-frame.frame-index c.frame-item.result c.loop-frame-test.true c.frame-item.is) c.in_default.ensures.none).knows_is

pub returns-in_default-clause-answers : goal.returns-in_default-clause-answers
returns-in_default-clause-answers c =
    (walk_aborts (map frame_value c.args.frames.now) c.loop-frame.frame-index (frame_value c.frame-item.result) _ (both_value c.loop-frame.both)
    c.loop-frame.knows c.loop-frame.answers c.requires.numbered c.requires.bear c.loop-frame.invariant.walked
    (drop_at c.args.frames.now c.loop-frame.frame-index c.frame-item.result c.loop-frame-test.true c.frame-item.is) c.in_default.ensures.none).answers_is

pub loop-frame-preserved : goal.loop-frame-preserved
loop-frame-preserved c =
    let frames = map frame_value c.args.frames.now in
    let both = both_value c.loop-frame.both in
    let knows : c.if-knows.knows ≡ (c.loop-frame.knows && knows_after c.in-Some.notice both) =
    elim c.if-knows.branch [
      | then-knows w ↦ w.knows-is ∙ (w.knows-knows.ensures ∙ ap (λ b. b && knows_after c.in-Some.notice both) (sym w.if-knows.true))
      | else-knows w ↦ w.knows-is ∙ (w.if-knows.false ∙ ap (λ b. b && knows_after c.in-Some.notice both) (sym w.if-knows.false))
    ] in
    let answers : c.if-answers.answers ≡ (c.loop-frame.answers && answers_after c.in-Some.notice both) =
    elim c.if-answers.branch [
      | then-answers w ↦ w.answers-is ∙ (w.answers-answers.ensures ∙ ap (λ b. b && answers_after c.in-Some.notice both) (sym w.if-answers.true))
      | else-answers w ↦ w.answers-is ∙ (w.if-answers.false ∙ ap (λ b. b && answers_after c.in-Some.notice both) (sym w.if-answers.false))
    ] in
    let says : IsNoticeOf c.in-Some.notice (frame_value c.frame-item.result) (c.loop-frame.frame-index + 1) =
    subst (λ n. IsNoticeOf c.in-Some.notice (frame_value c.frame-item.result) (n + 1)) c.loop-frame.invariant.number_is c.in-Some.ensures.some in
    let walked = walk_goes frames c.loop-frame.frame-index (frame_value c.frame-item.result) (drop (c.loop-frame.frame-index + 1) frames) c.in-Some.notice both
    c.loop-frame.knows c.loop-frame.answers c.requires.says c.loop-frame.invariant.walked
    (drop_at c.args.frames.now c.loop-frame.frame-index c.frame-item.result c.loop-frame-test.true c.frame-item.is) refl c.in-Some.ensures.said says in
    record {
      walked =
          subst (λ k. IsWalked frames (c.loop-frame.frame-index + 1) (both_value c.take.new.self) k c.if-answers.answers) (sym knows)
          (subst (λ a. IsWalked frames (c.loop-frame.frame-index + 1) (both_value c.take.new.self)
          (c.loop-frame.knows && knows_after c.in-Some.notice both) a) (sym answers)
          (subst (λ b. IsWalked frames (c.loop-frame.frame-index + 1) b (c.loop-frame.knows && knows_after c.in-Some.notice both)
          (c.loop-frame.answers && answers_after c.in-Some.notice both)) (sym c.in_ok-take.ensures) walked));
      number_is = omega (arith, c.loop-frame.invariant.number_is);
    }
