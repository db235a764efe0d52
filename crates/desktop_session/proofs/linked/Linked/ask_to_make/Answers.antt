-- One request is followed, and its reply.
use Rattle.std.proofs.Common.{rules}
use Rattle.std.proofs.lemmas.Result.{err_from_is_err_and}
use Rattle.desktop_session.specs.Answers.{handle_of, said_in}
use Rattle.desktop_session.specs.Requests.{making_of}
use Rattle.desktop_session.proofs.FollowLaws.{follows_as, follows_by, follows_unread}
use Rattle.desktop_session.proofs.linked.Linked.ask_to_make.Goals as goal

pub returns-clause-follows : goal.returns-clause-follows
returns-clause-follows g c = follows_by g.met.L.Link.heard_none g.met.L.Link.heard_more
    (making_of c.args.creator.0 c.args.kind.0 c.args.attributes c.args.version c.args.name.now).asks (said_in 0x18 handle_of)
    (follows_as (search rules) c.in_ok-ask.ensures.follows) c.reply.ensures c.created_in.ensures

pub returns-in_err-ask-clause-follows : goal.returns-in_err-ask-clause-follows
returns-in_err-ask-clause-follows g c =
    let p = err_from_is_err_and c.from_residual.result c.from_residual.ensures.1 in
    rw (p.1, p.2) (follows_unread g.met.L.Link.heard_none g.met.L.Link.heard_more
    (making_of c.args.creator.0 c.args.kind.0 c.args.attributes c.args.version c.args.name.now).asks (said_in 0x18 handle_of)
    (follows_as (search rules) c.in_err-ask.ensures.follows))
