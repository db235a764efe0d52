-- One request is followed, and its reply.
use Rattle.std.proofs.Common.{rules}
use Rattle.std.proofs.lemmas.Result.{err_from_is_err_and}
use Rattle.desktop_session.specs.Answers.{no_more, said_in}
use Rattle.desktop_session.specs.Requests.{putting_resource}
use Rattle.desktop_session.proofs.FollowLaws.{follows_as, follows_by, follows_unread}
use Rattle.desktop_session.proofs.open_db.OpenDb.put_resource.Goals as goal

pub returns-clause-follows : goal.returns-clause-follows
returns-clause-follows g c = follows_by g.met.L.Link.heard_none g.met.L.Link.heard_more
    (putting_resource c.args.self.now.handle c.args.resource.now.kind.0 c.args.resource.now.id c.args.resource.now.bytes).asks (said_in 0x24 no_more)
    (follows_as (search rules) c.in_ok-ask_to_put_resource.ensures.follows) c.reply.ensures c.done_in.ensures

pub returns-in_err-ask_to_put_resource-clause-follows : goal.returns-in_err-ask_to_put_resource-clause-follows
returns-in_err-ask_to_put_resource-clause-follows g c =
    let p = err_from_is_err_and c.from_residual.result c.from_residual.ensures.1 in
    rw (p.1, p.2) (follows_unread g.met.L.Link.heard_none g.met.L.Link.heard_more
    (putting_resource c.args.self.now.handle c.args.resource.now.kind.0 c.args.resource.now.id c.args.resource.now.bytes).asks (said_in 0x24 no_more)
    (follows_as (search rules) c.in_err-ask_to_put_resource.ensures.follows))
