-- Frame by frame, up to the first that may not be said.
use Rattle.std.proofs.Common.{ap, subst, ◌∙◌, map, arith}
use Rattle.std.proofs.lemmas.List.{drop_all}
use Rattle.trace_text.specs.declared.frame.End.TheVariants.{Handheld, Desktop}
use Rattle.trace_text.specs.TraceLines.{frame_value}
use Rattle.trace_check.proofs.TalkingLaws.{Talked, talking-room, talked-not, talked-keeps, talked-wholes}
use Rattle.trace_check.proofs.WalkLaws.{next_left}
use Rattle.trace_check.proofs.talking.whole_messages.Goals as goal

pub pass-requires-clause-room : goal.pass-requires-clause-room
pass-requires-clause-room c =
    let talked = c.loop-frame.invariant in
    talking-room talked.past c.loop-frame.talking talked.is (omega (arith, talked.short, c.loop-frame-test.true, c.requires.few))

pub returns-then-not-pass-clause-none : goal.returns-then-not-pass-clause-none
returns-then-not-pass-clause-none c =
    let frames = c.args.frames.now in
    let place = c.loop-frame.frame-index in
    let next = next_left frame_value frames place c.frame-item.result c.loop-frame-test.true c.frame-item.is in
    let talked = subst (Talked (map frame_value frames) place c.loop-frame.talking) next c.loop-frame.invariant in
    talked-not talked (c.if-not-pass.ensures talked.past talked.is talked.so)

pub returns-clause-keeps : goal.returns-clause-keeps
returns-clause-keeps c =
    let none = ap (map frame_value) (drop_all c.loop-frame.frame-index c.args.frames.now c.loop-frame-test.false) in
    talked-keeps (subst (Talked (map frame_value c.args.frames.now) c.loop-frame.frame-index c.loop-frame.talking) none c.loop-frame.invariant)

pub returns-clause-handheld : goal.returns-clause-handheld
returns-clause-handheld c =
    let none = ap (map frame_value) (drop_all c.loop-frame.frame-index c.args.frames.now c.loop-frame-test.false) in
    c.wholes.ensures ∙ talked-wholes Handheld
    (subst (Talked (map frame_value c.args.frames.now) c.loop-frame.frame-index c.loop-frame.talking) none c.loop-frame.invariant)

pub returns-clause-desktop : goal.returns-clause-desktop
returns-clause-desktop c =
    let none = ap (map frame_value) (drop_all c.loop-frame.frame-index c.args.frames.now c.loop-frame-test.false) in
    c.wholes-2.ensures ∙ talked-wholes Desktop
    (subst (Talked (map frame_value c.args.frames.now) c.loop-frame.frame-index c.loop-frame.talking) none c.loop-frame.invariant)
