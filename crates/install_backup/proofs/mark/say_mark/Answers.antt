-- The mark is said, or it is so already.
use Rattle.std.proofs.Common.{◌∙◌, ap, refl, sym}
use Rattle.dlp_replies.specs.ReplyReading.{reply_at}
use Rattle.desktop_session.specs.Requests.{marking}
use Rattle.mirrors.proofs.AskLaws.{asked_answer}
use Rattle.session_parts.proofs.CauseLaws.{later_answer}
use Rattle.session_parts.proofs.LinkWords.{no_more, said_in}
use Rattle.install_backup.specs.Marks.{is_marked}
use Rattle.install_backup.proofs.AskWords.{asks_none}
use Rattle.install_backup.proofs.LimitLaws.{other_said}
use Rattle.install_backup.proofs.MarkLaws.{marks_none, marks_said}
use Rattle.install_backup.proofs.mark.say_mark.Goals as goal

pub returns-then-is_marked-clause-asks : goal.returns-then-is_marked-clause-asks
returns-then-is_marked-clause-asks g c =
    let is = ap (is_marked c.args.mark) (sym c.user.ensures) ∙ sym c.is_marked.ensures ∙ c.if-is_marked.true in
    rw (marks_none c.args.mark c.args.linked.now.user is) (asks_none g.met.L.Link.since_itself c.args.linked.now tt)

pub returns-clause-asks : goal.returns-clause-asks
returns-clause-asks g c =
    let is = ap (is_marked c.args.mark) (sym c.user.ensures) ∙ sym c.is_marked.ensures ∙ c.if-is_marked.false in
    rw (marks_said c.args.mark c.args.linked.now.user is)
    (rw (c.nobody.ensures, c.bits_of.ensures) at (asked_answer g.L.Link.talk g.L.Link.since g.L.Link.fault g.L.Link.downs
    (marking c.nobody.result c.bits_of.result) c.args.linked.now c.mark.new.self (said_in 0x11 no_more (reply_at 0x11 c.mark.new.self.reply)) c.mark.result
    c.mark.ensures.answer c.mark.ensures.asked))

pub returns-clause-cause : goal.returns-clause-cause
returns-clause-cause g c = later_answer no_more c.mark.result refl c.mark.ensures.asked c.mark.ensures.answer

pub returns-clause-others : goal.returns-clause-others
returns-clause-others g c = other_said 0x11 _ no_more _ c.mark.result refl c.mark.ensures.answer
