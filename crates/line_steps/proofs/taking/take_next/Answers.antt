use Rattle.line_steps.proofs.CountingLaws.{lands_marked}
use Rattle.line_steps.proofs.Names.{refl, subst, slice_get_within, IfOk-weaker, on_ok_weaker, fate_value, AddsOne, StillUnderway}
use Rattle.line_steps.proofs.MarkingLaws.{holds_marked, delivers_marked, less-marked, still_marked, talks_marked}
use Rattle.line_steps.proofs.RoomLaws.{keeps_marked, room_behind}
use Rattle.line_steps.proofs.HaltedLaws.{halted_behind}
use Rattle.line_steps.proofs.HaltingLaws.{err_weaker}
use Rattle.line_steps.proofs.taking.take_next.Goals as goal

pub mark-requires : goal.mark-requires
mark-requires c = slice_get_within c.args.wire.now.frames.items c.args.x.now.taken c.requires.next.frame c.requires.next.here

pub take_marked-requires-clause-holds : goal.take_marked-requires-clause-holds
take_marked-requires-clause-holds c = holds_marked c.mark.ensures c.requires.holds

pub take_marked-requires-clause-next : goal.take_marked-requires-clause-next
take_marked-requires-clause-next c = delivers_marked c.mark.ensures c.requires.next

pub returns-clause-underway : goal.returns-clause-underway
returns-clause-underway c =
    IfOk-weaker c.take_marked.result (λ heard. StillUnderway heard c.mark.new.wire c.args.x.now c.args.y.now c.take_marked.new.wire
    c.take_marked.new.x c.take_marked.new.y)
    (λ heard. StillUnderway heard c.args.wire.now c.args.x.now c.args.y.now c.take_marked.new.wire c.take_marked.new.x c.take_marked.new.y)
    (λ heard still. still_marked c.mark.ensures still) c.take_marked.ensures.underway

pub returns-clause-adds : goal.returns-clause-adds
returns-clause-adds c =
    subst (λ fs. AddsOne (fate_value c.args.fate.now) fs c.take_marked.new.wire.frames.items) c.mark.ensures.frames_are c.take_marked.ensures.adds

pub returns-clause-less : goal.returns-clause-less
returns-clause-less c =
    on_ok_weaker c.take_marked.result (λ less. less-marked c.args.x.now c.args.y.now c.take_marked.new.wire c.take_marked.new.x c.take_marked.new.y
    c.mark.ensures less) c.take_marked.ensures.less

pub returns-clause-halted : goal.returns-clause-halted
returns-clause-halted c =
    let x = c.args.x.now in
    let y = c.args.y.now in
    err_weaker c.take_marked.result
    (λ halt it. halted_behind refl refl (λ talk talks. talks_marked x y c.mark.ensures talks) it) c.take_marked.ensures.halted

pub returns-clause-lands : goal.returns-clause-lands
returns-clause-lands c = lands_marked c.args.y.now c.take_marked.new.y c.mark.ensures c.take_marked.ensures.lands

pub returns-clause-room : goal.returns-clause-room
returns-clause-room c =
    room_behind c.take_marked.result c.args.wire.now.frames c.mark.new.wire.frames c.take_marked.new.wire.frames
    (keeps_marked c.args.wire.now.frames c.mark.new.wire.frames c.mark.ensures.room_is) c.take_marked.ensures.room
