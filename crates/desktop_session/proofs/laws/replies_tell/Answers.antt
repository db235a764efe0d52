use Rattle.desktop_session.proofs.TellLaws.{acted_reads}
use Rattle.desktop_session.proofs.laws.replies_tell.Goals as goal

pub returns : goal.returns
returns c = acted_reads
