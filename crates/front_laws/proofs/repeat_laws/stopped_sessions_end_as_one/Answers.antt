use Rattle.front_laws.proofs.RepeatLaws.{repeat}
use Rattle.front_laws.proofs.repeat_laws.stopped_sessions_end_as_one.Goals as goal

pub returns : goal.returns
returns c = repeat
