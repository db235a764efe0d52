use Rattle.std.proofs.Common.{refl, subst}
use Rattle.std.specs.Prelude.{IfErr, None}
use Rattle.std.proofs.lemmas.Result.{err_from_is_err_and}
use Rattle.dlp_replies.specs.ReplyReading.{reply_at}
use Rattle.desktop_session.specs.Answers.{mapped}
use Rattle.desktop_session.specs.Asking.{ids_behind}
use Rattle.desktop_session.specs.Following.{OrNoMemory}
use Rattle.desktop_session.specs.Lists.{HasCause}
use Rattle.desktop_session.specs.Requests.{listing_ids}
use Rattle.desktop_session.proofs.FollowLaws.{follows_read, follows_unread}
use Rattle.dlp_requests.specs.Forms as form
use Rattle.desktop_session.proofs.LastLaws.{last_caused, never_missing}
use Rattle.desktop_session.proofs.linked.Linked.ids_from.Goals as goal

pub returns-clause-last : goal.returns-clause-last
returns-clause-last g c =
    last_caused c.add_ids.result (c.in_ok-ask.ensures.asked refl) c.in_ok-ask.ensures.fault
    (subst (λ bytes. IfErr c.add_ids.result (HasCause None (reply_at 0x31 bytes))) c.reply.ensures c.add_ids.ensures.cause)
    c.add_ids.ensures.function (never_missing form.ReadRecordIdList _ refl)

pub returns-clause-follows : goal.returns-clause-follows
returns-clause-follows g c =
    follows_read g.met.L.Link.heard_none g.met.L.Link.heard_more (listing_ids c.args.handle c.args.start).asks (ids_behind c.args.ids.now.items)
    c.in_ok-ask.ensures.follows
    (subst (λ bytes. OrNoMemory (ids_behind c.args.ids.now.items (reply_at 0x31 bytes)) (mapped (λ done. c.add_ids.new.all.items) c.add_ids.result))
    c.reply.ensures c.add_ids.ensures.behind)

pub returns-in_err-ask-clause-follows : goal.returns-in_err-ask-clause-follows
returns-in_err-ask-clause-follows g c =
    let p = err_from_is_err_and c.from_residual.result c.from_residual.ensures.1 in
    rw (p.1, p.2) (follows_unread g.met.L.Link.heard_none g.met.L.Link.heard_more (listing_ids c.args.handle c.args.start).asks
    (ids_behind c.args.ids.now.items) c.in_err-ask.ensures.follows)
