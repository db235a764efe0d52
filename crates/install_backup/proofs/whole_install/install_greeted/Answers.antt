-- The databases are installed, and the session is ended.
use Rattle.std.proofs.Common.{refl}
use Rattle.dlp_replies.specs.ReplyReading.{reply_at}
use Rattle.session_parts.proofs.CauseLaws.{later_said}
use Rattle.session_parts.proofs.LinkWords.{no_more}
use Rattle.install_backup.proofs.LimitLaws.{other_said}
use Rattle.install_backup.proofs.WentLaws.{went_ended, went_stopped, went_unended}
use Rattle.install_backup.proofs.whole_install.install_greeted.Goals as goal

pub returns-in-Ok-finish : goal.returns-in-Ok-finish
returns-in-Ok-finish g c =
    went_ended g.met.L.Link.since_more c.in-Ok.ensures.installs tt _ c.in-Ok-finish.ensures.stops c.in-Ok-finish.ensures.does

pub returns-in-Err-finish : goal.returns-in-Err-finish
returns-in-Err-finish g c =
    rw c.stopped.ensures (went_unended g.met.L.Link.since_more c.in-Ok.ensures.installs tt _ c.in-Err-finish.ensures.stops
    (later_said 0x2F _ _ no_more (reply_at 0x2F c.in-Err-finish.ensures.answer.reply) _ c.in-Err-finish.ensures.answer.is c.in-Err-finish.ensures.last)
    (other_said 0x2F _ no_more (reply_at 0x2F c.in-Err-finish.ensures.answer.reply) _ refl c.in-Err-finish.ensures.answer.is))

pub returns-in-Err : goal.returns-in-Err
returns-in-Err g c =
    rw (c.stopped-in-Err.ensures, c.link_of.ensures) (went_stopped tt c.in-Err.stop c.in-Err.ensures.installs c.in-Err.ensures.full c.in-Err.ensures.within)
