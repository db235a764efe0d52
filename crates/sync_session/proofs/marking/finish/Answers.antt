-- Two requests.
use Rattle.std.proofs.Common.{[], ◌∷◌, refl}
use Rattle.dlp_replies.specs.ReplyReading.{reply_at}
use Rattle.session_parts.proofs.LinkWords.{text, no_more, said_in, ending}
use Rattle.desktop_session.proofs.GreetLaws.{no_fault_said}
use Rattle.desktop_session.proofs.StopLaws.{stops_more, stops_then}
use Rattle.mirrors.proofs.PartFollows.{then_ends, then_goes}
use Rattle.session_parts.proofs.CauseLaws.{later_ended, later_refused}
use Rattle.sync_session.proofs.EndLaws.{does_before}
use Rattle.sync_session.proofs.marking.finish.Goals as goal

pub returns-in-Ok-clause-stops : goal.returns-in-Ok-clause-stops
returns-in-Ok-clause-stops g c =
    let asked = rw c.done_user-user.ensures at c.in-Ok.ensures.asked in
    let none = no_fault_said _ (said_in 0x11 no_more (reply_at 0x11 c.mark.new.self.reply)) c.in-Ok.field-0 c.in-Ok.ensures.answer in
    stops_then _ _ _ _ g.met.L.Link.since_more _ (text ending ∷ []) _ _ _ (asked.does none) asked.stops c.finish.ensures.stops

pub returns-in-Ok-clause-does : goal.returns-in-Ok-clause-does
returns-in-Ok-clause-does g c =
    let asked = rw c.done_user-user.ensures at c.in-Ok.ensures.asked in
    let none = no_fault_said _ (said_in 0x11 no_more (reply_at 0x11 c.mark.new.self.reply)) c.in-Ok.field-0 c.in-Ok.ensures.answer in
    does_before (ending ∷ []) c.finish.result (asked.does none) c.finish.ensures.does

pub returns-in-Err-clause-stops : goal.returns-in-Err-clause-stops
returns-in-Err-clause-stops g c =
    let asked = rw c.done_user-user.ensures at c.in-Err.ensures.asked in
    rw c.halt.ensures.link (stops_more _ _ _ _ _ (text ending ∷ []) _ _ asked.stops)

pub returns-in-Ok-clause-cause : goal.returns-in-Ok-clause-cause
returns-in-Ok-clause-cause g c =
    later_ended 0x2F g.L.Link.talk g.L.Link.fault (reply_at 0x2F c.finish.ensures.answer.reply) c.finish.result c.finish.ensures.answer.is c.finish.ensures.last

pub returns-in-Err-clause-cause : goal.returns-in-Err-clause-cause
returns-in-Err-clause-cause g c =
    rw (c.halt.ensures.link, c.halt.ensures.cause) (later_refused no_more _ refl c.in-Err.ensures.asked c.in-Err.ensures.answer)

pub returns-in-Ok-clause-follows : goal.returns-in-Ok-clause-follows
returns-in-Ok-clause-follows g c =
    then_goes g.met.L.Link.heard_none g.met.L.Link.heard_more _ (rw c.done_user-user.ensures at c.in-Ok.ensures.follows) c.finish.ensures.follows

pub returns-in-Err-clause-follows : goal.returns-in-Err-clause-follows
returns-in-Err-clause-follows g c =
    rw (c.halt.ensures.link, c.halt.ensures.cause) (then_ends g.met.L.Link.heard_none g.met.L.Link.heard_more _
    (rw c.done_user-user.ensures at c.in-Err.ensures.follows))
