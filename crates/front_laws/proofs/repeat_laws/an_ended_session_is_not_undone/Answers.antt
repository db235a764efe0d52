use Rattle.front_laws.proofs.CommitLaws.{at-end}
use Rattle.front_laws.proofs.repeat_laws.an_ended_session_is_not_undone.Goals as goal

pub returns : goal.returns
returns c = λ a x given later view gone_counts is then_read. at-end a x given later view gone_counts is.read is.got then_read
