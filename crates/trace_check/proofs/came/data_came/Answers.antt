-- Frame by frame, up to an abort, which is the last one.
use Rattle.std.proofs.Common.{◌∷◌, [], ◌++◌, ◌+◌, sym, ap, subst, ◌∙◌, map, drop}
use Rattle.trace_text.specs.TraceLines.{frame_value}
use Rattle.trace_check.specs.Sending.{sent_value}
use Rattle.trace_check.proofs.CollectingLaws.{Collected, collected-first, collected-last, collected-came, collected-other, came-at}
use Rattle.trace_check.proofs.WalkLaws.{next_left}
use Rattle.trace_check.proofs.came.data_came.Goals.{then-is_data_that_came+in_ok-push, else-is_data_that_came}
use Rattle.trace_check.proofs.came.data_came.Goals as goal

pub loop-frame-init : goal.loop-frame-init
loop-frame-init c =
    let frames = map frame_value c.args.frames.now in
    subst (λ xs. Collected c.args.from frames 0 0 0 xs frames) (sym c.new-data_frames.ensures.items) (collected-first c.args.from frames c.requires.ends c.requires.bear)

pub returns-in_default : goal.returns-in_default
returns-in_default c =
    let frames = c.args.frames.now in
    let place = c.loop-frame.frame-index in
    let next = next_left frame_value frames place c.frame-item.result c.loop-frame-test.true c.frame-item.is in
    let so = subst (Collected c.args.from (map frame_value frames) place c.loop-frame.number c.loop-frame.late c.loop-frame.data_frames.items) next c.loop-frame.invariant in
    collected-last (frame_value c.frame-item.result) so c.in_default.ensures

pub loop-frame-preserved : goal.loop-frame-preserved
loop-frame-preserved c =
    let frames = c.args.frames.now in
    let place = c.loop-frame.frame-index in
    let next = next_left frame_value frames place c.frame-item.result c.loop-frame-test.true c.frame-item.is in
    let so = subst (Collected c.args.from (map frame_value frames) place c.loop-frame.number c.loop-frame.late c.loop-frame.data_frames.items) next c.loop-frame.invariant in
    let came = came-at frames place c.frame-item.result c.loop-frame-test.true c.frame-item.is in
    let late = c.newest_late-late.ensures in
    let sent = sent_value c.in-Some.sent in
    let left = map frame_value (drop (place + 1) frames) in
    let All = Collected c.args.from (map frame_value frames) (place + 1) (c.loop-frame.number + 1) in
    elim c.if-is_data_that_came.branch [
      | then-is_data_that_came+in_ok-push w ↦
          let now = sym c.is_data_that_came.ensures ∙ w.if-is_data_that_came.true in
          let is = ap (λ v. v.items) w.data_frames-is ∙ w.in_ok-push.ensures.items in
          subst (λ xs. All c.newest_late-late.result xs left) (sym is)
          (subst (λ n. All n (c.loop-frame.data_frames.items ++ record { number = c.loop-frame.number + 1; key = sent.key; late = n } ∷ []) left) (sym late)
          (collected-came (frame_value c.frame-item.result) sent so c.in-Some.ensures came now))
      | else-is_data_that_came w ↦
          let none = sym c.is_data_that_came.ensures ∙ w.if-is_data_that_came.false in
          subst (λ xs. All c.newest_late-late.result xs left) (sym (ap (λ v. v.items) w.data_frames-is))
          (subst (λ n. All n c.loop-frame.data_frames.items left) (sym late)
          (collected-other (frame_value c.frame-item.result) sent so c.in-Some.ensures came none))
    ]
