-- Memory ran out before anything was asked, or both sides meet.
use Rattle.session_parts.specs.Inquiries.{meets}
use Rattle.mirrors.proofs.PartFollows.{lost_first}
use Rattle.session_parts.proofs.meeting.meet_over.Goals as goal

pub returns-in-Ok-clause-follows : goal.returns-in-Ok-clause-follows
returns-in-Ok-clause-follows g c = rw c.in-Ok.ensures.ok at c.meet.ensures.follows

pub returns-in-Err-clause-follows : goal.returns-in-Err-clause-follows
returns-in-Err-clause-follows g c =
    rw (c.in-Err.ensures.err, c.in-Err.ensures.cause)
    (lost_first g.met.L.Link.heard_none (meets c.args.marks.now c.args.wish.now) c.args.link)
