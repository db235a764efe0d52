-- What came is kept where it is whole, and what a device replies is.
use Rattle.std.proofs.Common.{◌∙◌, ap, refl}
use Rattle.dlp_replies.specs.ReplyReading.{reply_at}
use Rattle.desktop_session.specs.Wholes.{is_whole}
use Rattle.desktop_session.proofs.WholeReplies.{asked_whole, next_is_whole, reply_whole}
use Rattle.desktop_session.specs.Requests.{reading_next}
use Rattle.desktop_session.proofs.LendFollows.{follows_kept, follows_unkept}
use Rattle.std.proofs.lemmas.Result.{err_from_is_err_and}
use Rattle.desktop_session.proofs.linked.Linked.ask_next.Goals as goal

pub returns-clause-asked : goal.returns-clause-asked
returns-clause-asked g c =
    let asked = c.in_ok-ask.ensures.asked refl in
    asked_whole 0x1F (λ device. next_is_whole c.args.handle device asked.fits) asked c.keep_whole.ensures

pub returns-clause-whole : goal.returns-clause-whole
returns-clause-whole g c = λ none. ap (λ now. is_whole (reply_at 0x1F now.reply)) c.keep_whole.ensures ∙ reply_whole 0x1F c.ask.new.self.reply

pub returns-clause-follows : goal.returns-clause-follows
returns-clause-follows g c =
    rw (ap (λ now. now.link) c.keep_whole.ensures) (follows_kept g.met.L.Link.heard_none g.met.L.Link.heard_more
    (reading_next c.args.handle).asks c.in_ok-ask.ensures.follows
    (ap (λ now. now.reply) c.keep_whole.ensures))

pub returns-in_err-ask-clause-follows : goal.returns-in_err-ask-clause-follows
returns-in_err-ask-clause-follows g c =
    let p = err_from_is_err_and c.from_residual.result c.from_residual.ensures.1 in
    rw (p.1, p.2) (follows_unkept g.met.L.Link.heard_none g.met.L.Link.heard_more (reading_next c.args.handle).asks c.in_err-ask.ensures.follows)
