-- The session is ended.
use Rattle.std.proofs.Common.{Ok, Err}
use Rattle.dlp_replies.specs.ReplyReading.{reply_at}
use Rattle.session_parts.proofs.CauseLaws.{later_said}
use Rattle.session_parts.proofs.LinkWords.{no_more}
use Rattle.category_mirror.proofs.session.finish.Goals as goal

pub returns-in-Ok : goal.returns-in-Ok
returns-in-Ok g c = record {
  answer = Ok c.in-Ok.ended;
  stops = c.in-Ok.ensures.stops;
  does = c.in-Ok.ensures.does;
  cause = tt;
  is = rw c.into_folder.ensures;
}

pub returns-in-Err : goal.returns-in-Err
returns-in-Err g c = record {
  answer = Err c.in-Err.field-0;
  stops = c.in-Err.ensures.stops;
  does = tt;
  cause = later_said 0x2F _ _ no_more (reply_at 0x2F c.in-Err.ensures.answer.reply) _ c.in-Err.ensures.answer.is c.in-Err.ensures.last;
  is = c.stopped.ensures;
}
