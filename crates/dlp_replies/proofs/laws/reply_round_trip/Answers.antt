use Rattle.dlp_replies.specs.Frames.{frame, function_byte, reply_text}
use Rattle.dlp_replies.proofs.ReplyLaws.{reply_again}
use Rattle.dlp_replies.proofs.WriteLaws.{reply_written}
use Rattle.dlp_replies.proofs.laws.reply_round_trip.Goals as goal

pub returns-clause-text : goal.returns-clause-text
returns-clause-text c = reply_written

pub returns-clause-again : goal.returns-clause-again
returns-clause-again c = λ value is. reply_again (function_byte (frame value)) value (reply_text value) (reply_written value is)
