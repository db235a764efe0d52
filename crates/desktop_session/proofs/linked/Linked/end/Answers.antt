use Rattle.std.proofs.Common.{◌∙◌, ap, refl}
use Rattle.std.proofs.lemmas.Result.{err_from_is_err_and}
use Rattle.dlp_replies.specs.ReplyReading.{reply_at}
use Rattle.desktop_session.specs.Answers.{no_more, said_in}
use Rattle.desktop_session.specs.Requests.{ending}
use Rattle.desktop_session.proofs.FollowLaws.{follows_by, follows_unread}
use Rattle.desktop_session.proofs.LastLaws.{last_said}
use Rattle.desktop_session.proofs.linked.Linked.end.Goals as goal

pub returns-clause-last : goal.returns-clause-last
returns-clause-last g c =
    last_said no_more c.done_in.result refl (c.in_ok-ask.ensures.asked refl) c.in_ok-ask.ensures.fault
    (c.done_in.ensures ∙ ap (λ bytes. said_in 0x2F no_more (reply_at 0x2F bytes)) c.reply.ensures)

pub returns-clause-follows : goal.returns-clause-follows
returns-clause-follows g c = follows_by g.met.L.Link.heard_none g.met.L.Link.heard_more ending.asks (said_in 0x2F no_more) c.in_ok-ask.ensures.follows
    c.reply.ensures c.done_in.ensures

pub returns-in_err-ask-clause-follows : goal.returns-in_err-ask-clause-follows
returns-in_err-ask-clause-follows g c =
    let p = err_from_is_err_and c.from_residual.result c.from_residual.ensures.1 in
    rw (p.1, p.2) (follows_unread g.met.L.Link.heard_none g.met.L.Link.heard_more ending.asks (said_in 0x2F no_more) c.in_err-ask.ensures.follows)
