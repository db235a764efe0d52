use Rattle.front_laws.proofs.AnsweredLaws.{never-refused}
use Rattle.front_laws.proofs.laws.answered_sessions_are_never_refused.Goals as goal

pub returns : goal.returns
returns c = never-refused
