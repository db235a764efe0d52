-- The databases that were listed are kept, and the session is ended.
use Rattle.dlp_replies.specs.ReplyReading.{reply_at}
use Rattle.session_parts.proofs.CauseLaws.{later_said}
use Rattle.session_parts.proofs.LinkWords.{no_more}
use Rattle.install_backup.proofs.MetLaws.{met_ended, met_stopped, met_unended}
use Rattle.install_backup.proofs.whole_backup.backup_met.Goals as goal

pub returns-in-Ok-finish-clause-went : goal.returns-in-Ok-finish-clause-went
returns-in-Ok-finish-clause-went g c =
    rw (← c.deref.ensures.value) (met_ended c.in-Ok-finish.ended.link c.in-Ok.ensures.keeps c.in-Ok-finish.ensures.stops c.in-Ok-finish.ensures.does)

pub returns-in-Ok-clause-went : goal.returns-in-Ok-clause-went
returns-in-Ok-clause-went g c =
    rw (← c.deref.ensures.value) (met_unended c.in-Err-finish.field-0.link c.in-Ok.ensures.keeps c.in-Err-finish.ensures.stops
    (later_said 0x2F _ _ no_more (reply_at 0x2F c.in-Err-finish.ensures.answer.reply) _ c.in-Err-finish.ensures.answer.is c.in-Err-finish.ensures.last))

pub returns-clause-went : goal.returns-clause-went
returns-clause-went g c = rw (← c.deref.ensures.value, c.link_of.ensures) (met_stopped c.in-Err.ensures.keeps)
