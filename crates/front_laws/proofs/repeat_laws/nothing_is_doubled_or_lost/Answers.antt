use Rattle.front_laws.proofs.RepeatLaws.{repeat_anew}
use Rattle.front_laws.proofs.repeat_laws.nothing_is_doubled_or_lost.Goals as goal

pub returns : goal.returns
returns c = λ a x places later new are ids. repeat_anew a x places later new are.read are.stops are.got are.unknown ids.got ids.unknown
