use Rattle.std.proofs.Common.{sym}
use Rattle.palm_events.proofs.ExceptionLaws.{length-days_in}
use Rattle.palm_events.proofs.exceptions.Exceptions.len.Goals as goal

pub returns : goal.returns
returns c = sym (length-days_in c.args.self.now.bytes.now)
