use Rattle.std.proofs.Common.{◌∙◌, ap, refl, rules}
use Rattle.dlp_replies.specs.ReplyReading.{reply_at}
use Rattle.desktop_session.specs.Answers.{no_more, said_in}
use Rattle.desktop_session.specs.Requests.{beginning}
use Rattle.desktop_session.proofs.AnswerLaws.{answer_failed, answer_said}
use Rattle.desktop_session.proofs.FollowLaws.{follows_call}
use Rattle.desktop_session.proofs.LastLaws.{last_said}
use Rattle.desktop_session.proofs.linked.Linked.ask_conduits.Goals as goal

pub returns-clause-last : goal.returns-clause-last
returns-clause-last g c =
    last_said no_more c.done_in.result refl (c.in_ok-ask.ensures.asked refl) c.in_ok-ask.ensures.fault
    (c.done_in.ensures ∙ ap (λ bytes. said_in 0x2E no_more (reply_at 0x2E bytes)) c.reply.ensures)

pub returns-clause-follows : goal.returns-clause-follows
returns-clause-follows g c = follows_call g.met.L.Link.heard_none g.met.L.Link.heard_more beginning.asks (said_in 0x2E no_more) _ _ c.ask.result
    c.ask.ensures.follows c.ask.ensures.fault (search (rules, answer_said, answer_failed))

pub returns-in_err-ask-clause-follows : goal.returns-in_err-ask-clause-follows
returns-in_err-ask-clause-follows g c = follows_call g.met.L.Link.heard_none g.met.L.Link.heard_more beginning.asks (said_in 0x2E no_more) _ _ c.ask.result
    c.ask.ensures.follows c.ask.ensures.fault (search (rules, answer_said, answer_failed))
