use Rattle.sync_session.proofs.QuietLaws.{quiet-before_writes}
use Rattle.sync_session.proofs.laws.nothing_is_written_before_the_mark.Goals as goal

pub returns : goal.returns
returns c = quiet-before_writes
