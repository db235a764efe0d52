-- The handheld was greeted, or not, and the mark was said.
use Rattle.install_backup.proofs.MarkLaws.{marked_said, marked_stops, unmarked_stops}
use Rattle.install_backup.proofs.greeting.greet.Goals as goal

pub returns-in-Err-clause-stops : goal.returns-in-Err-clause-stops
returns-in-Err-clause-stops g c = λ told is rests. unmarked_stops c.args.mark told.device.user c.in-Err.ensures.stops

pub returns-in-Ok-say_mark-clause-stops : goal.returns-in-Ok-say_mark-clause-stops
returns-in-Ok-say_mark-clause-stops g c = λ told is rests.
    marked_stops c.args.mark g.met.L.Link.since_more c.in-Ok.ensures.stops c.in-Ok.ensures.does told.device.user (c.in-Ok.ensures.user told is rests)
    c.say_mark.ensures.asks

pub returns-in-Ok-say_mark-clause-does : goal.returns-in-Ok-say_mark-clause-does
returns-in-Ok-say_mark-clause-does g c = λ told is rests.
    marked_said c.args.mark g.met.L.Link.since_more c.in-Ok.ensures.stops c.in-Ok.ensures.does told.device.user (c.in-Ok.ensures.user told is rests)
    c.in-Ok-say_mark.ensures.asks

pub returns-in-Err-say_mark-clause-stops : goal.returns-in-Err-say_mark-clause-stops
returns-in-Err-say_mark-clause-stops g c = λ told is rests.
    rw c.halt.ensures.link (marked_stops c.args.mark g.met.L.Link.since_more c.in-Ok.ensures.stops c.in-Ok.ensures.does told.device.user
    (c.in-Ok.ensures.user told is rests) c.say_mark.ensures.asks)
