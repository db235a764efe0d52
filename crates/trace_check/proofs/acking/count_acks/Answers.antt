-- Frame by frame, up to the first acknowledgement that isn't the next one.
use Rattle.std.proofs.Common.{subst, map}
use Rattle.trace_text.specs.Frames.{came_in}
use Rattle.trace_text.specs.TraceLines.{frame_value}
use Rattle.trace_check.proofs.AckingLaws.{Acked, acked-more, acked-not}
use Rattle.trace_check.proofs.WalkLaws.{next_left}
use Rattle.trace_check.proofs.acking.count_acks.Goals as goal

pub returns-then-not-pass-clause-none : goal.returns-then-not-pass-clause-none
returns-then-not-pass-clause-none c =
    let frames = c.args.frames.now in
    let place = c.loop-frame.frame-index in
    let came = came_in (map frame_value frames) in
    let next = next_left frame_value frames place c.frame-item.result c.loop-frame-test.true c.frame-item.is in
    let so = subst (Acked c.args.from c.args.by came c.args.data_frames.now (map frame_value frames) place c.loop-frame.acks) next c.loop-frame.invariant in
    acked-not c.args.from c.args.by came c.args.data_frames.now (map frame_value frames) (frame_value c.frame-item.result) place c.loop-frame.acks c.pass.new.self _
    c.requires.came so c.if-not-pass.ensures

pub loop-frame-preserved : goal.loop-frame-preserved
loop-frame-preserved c =
    let frames = c.args.frames.now in
    let place = c.loop-frame.frame-index in
    let came = came_in (map frame_value frames) in
    let next = next_left frame_value frames place c.frame-item.result c.loop-frame-test.true c.frame-item.is in
    let so = subst (Acked c.args.from c.args.by came c.args.data_frames.now (map frame_value frames) place c.loop-frame.acks) next c.loop-frame.invariant in
    acked-more c.args.from c.args.by came c.args.data_frames.now (map frame_value frames) (frame_value c.frame-item.result) place c.loop-frame.acks c.pass.new.self _
    c.requires.came so c.if-not-pass.ensures
