use Rattle.std.proofs.Common.{refl, subst}
use Rattle.std.specs.Prelude.{IfErr, None}
use Rattle.dlp_replies.specs.ReplyReading.{reply_at}
use Rattle.std.proofs.lemmas.Result.{err_from_is_err_and}
use Rattle.desktop_session.specs.Answers.{mapped}
use Rattle.desktop_session.specs.Following.{OrNoMemory}
use Rattle.desktop_session.specs.Greeted.{page}
use Rattle.desktop_session.specs.Requests.{listing}
use Rattle.desktop_session.proofs.FollowLaws.{follows_read, follows_unread}
use Rattle.desktop_session.specs.Lists.{HasCause}
use Rattle.desktop_session.proofs.LastLaws.{last_caused}
use Rattle.desktop_session.proofs.linked.Linked.list_from.Goals as goal

pub returns-clause-last : goal.returns-clause-last
returns-clause-last g c =
    last_caused c.add_heads.result (c.in_ok-ask.ensures.asked refl) c.in_ok-ask.ensures.fault
    (subst (λ bytes. IfErr c.add_heads.result (HasCause None (reply_at 0x16 bytes))) c.reply.ensures c.add_heads.ensures.cause)
    c.add_heads.ensures.function (λ may. c.add_heads.ensures.others)

pub returns-clause-follows : goal.returns-clause-follows
returns-clause-follows g c =
    follows_read g.met.L.Link.heard_none g.met.L.Link.heard_more (listing c.args.start).asks (page c.args.start c.args.heads.now.items)
    c.in_ok-ask.ensures.follows
    (subst (λ bytes. OrNoMemory (page c.args.start c.args.heads.now.items (reply_at 0x16 bytes))
    (mapped (λ next. (c.add_heads.new.heads.items, next)) c.add_heads.result)) c.reply.ensures c.add_heads.ensures.page)

pub returns-in_err-ask-clause-follows : goal.returns-in_err-ask-clause-follows
returns-in_err-ask-clause-follows g c =
    let p = err_from_is_err_and c.from_residual.result c.from_residual.ensures.1 in
    rw (p.1, p.2) (follows_unread g.met.L.Link.heard_none g.met.L.Link.heard_more (listing c.args.start).asks (page c.args.start c.args.heads.now.items)
    c.in_err-ask.ensures.follows)
