use Rattle.std.proofs.Common.{◌∙◌, ap, refl, rules}
use Rattle.std.proofs.lemmas.Result.{err_from_is_err_and}
use Rattle.std.specs.Prelude.{Err}
use Rattle.dlp_replies.specs.ReplyReading.{reply_at}
use Rattle.desktop_session.specs.Answers.{said_in, user_of}
use Rattle.desktop_session.specs.Greetings.{user_by}
use Rattle.desktop_session.specs.Requests.{reading_user}
use Rattle.desktop_session.proofs.AnswerLaws.{answer_failed, answer_said}
use Rattle.desktop_session.proofs.FollowLaws.{follows_call}
use Rattle.desktop_session.proofs.LastLaws.{last_said}
use Rattle.desktop_session.proofs.linked.Linked.ask_user.Goals as goal

pub returns-in_err-user-clause-last : goal.returns-in_err-user-clause-last
returns-in_err-user-clause-last g c =
    let p = err_from_is_err_and c.from_residual-in_err-user.result c.from_residual-in_err-user.ensures.1 in
    rw (p.1, p.2) (last_said user_of (Err _) refl (c.in_ok-ask.ensures.asked refl) c.in_ok-ask.ensures.fault
    (c.in_err-user.ensures ∙ ap (λ bytes. said_in 0x10 user_of (reply_at 0x10 bytes)) c.reply.ensures))

pub returns-in_err-ask-clause-follows : goal.returns-in_err-ask-clause-follows
returns-in_err-ask-clause-follows g c = follows_call g.met.L.Link.heard_none g.met.L.Link.heard_more reading_user.asks
    (λ read. user_by c.args.marks.now c.args.wish.now (said_in 0x10 user_of read)) _ _ c.ask.result c.ask.ensures.follows c.ask.ensures.fault
    (search (rules, answer_said, answer_failed))

pub returns-in_err-user-clause-follows : goal.returns-in_err-user-clause-follows
returns-in_err-user-clause-follows g c = follows_call g.met.L.Link.heard_none g.met.L.Link.heard_more reading_user.asks
    (λ read. user_by c.args.marks.now c.args.wish.now (said_in 0x10 user_of read)) _ _ c.ask.result c.ask.ensures.follows c.ask.ensures.fault
    (search (rules, answer_said, answer_failed))

pub returns-clause-follows : goal.returns-clause-follows
returns-clause-follows g c = follows_call g.met.L.Link.heard_none g.met.L.Link.heard_more reading_user.asks
    (λ read. user_by c.args.marks.now c.args.wish.now (said_in 0x10 user_of read)) _ _ c.ask.result c.ask.ensures.follows c.ask.ensures.fault
    (search (rules, answer_said, answer_failed))
