-- A mark is one act.
use Rattle.std.proofs.Common.{◌≡◌, ◌∙◌, ap, refl}
use Rattle.dlp_replies.specs.ReplyReading.{reply_at}
use Rattle.mirrors.proofs.AskLaws.{asked_answer}
use Rattle.session_parts.proofs.CauseLaws.{later_answer}
use Rattle.session_parts.proofs.LinkWords.{no_more, said_in}
use Rattle.session_plan.specs.Users.{begun_user}
use Rattle.category_mirror.proofs.session.mark.Goals as goal

pub returns-clause-asks : goal.returns-clause-asks
returns-clause-asks g c =
    let is : c.begun_user-user.result ≡ begun_user c.args.linked.now.user = c.begun_user-user.ensures ∙ ap begun_user c.user.ensures in
    rw is at (asked_answer _ _ _ _ _ _ _ (said_in 0x11 no_more (reply_at 0x11 c.mark.new.self.reply)) c.mark.result c.mark.ensures.answer c.mark.ensures.asked)

pub returns-clause-cause : goal.returns-clause-cause
returns-clause-cause g c = later_answer no_more c.mark.result refl c.mark.ensures.asked c.mark.ensures.answer
