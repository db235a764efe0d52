-- One request is followed, and its reply.
use Rattle.std.proofs.Common.{rules}
use Rattle.std.proofs.lemmas.Result.{err_from_is_err_and}
use Rattle.desktop_session.specs.Answers.{no_more, said_in}
use Rattle.desktop_session.specs.Requests.{marking}
use Rattle.desktop_session.proofs.FollowLaws.{follows_as, follows_by, follows_unread}
use Rattle.desktop_session.proofs.linked.Linked.mark.Goals as goal

pub returns-clause-follows : goal.returns-clause-follows
returns-clause-follows g c = follows_by g.met.L.Link.heard_none g.met.L.Link.heard_more (marking c.args.mark.now c.args.bits).asks (said_in 0x11 no_more)
    (follows_as (search rules) c.in_ok-ask.ensures.follows) c.reply.ensures c.done_in.ensures

pub returns-in_err-ask-clause-follows : goal.returns-in_err-ask-clause-follows
returns-in_err-ask-clause-follows g c =
    let p = err_from_is_err_and c.from_residual.result c.from_residual.ensures.1 in
    rw (p.1, p.2) (follows_unread g.met.L.Link.heard_none g.met.L.Link.heard_more (marking c.args.mark.now c.args.bits).asks (said_in 0x11 no_more)
    (follows_as (search rules) c.in_err-ask.ensures.follows))
