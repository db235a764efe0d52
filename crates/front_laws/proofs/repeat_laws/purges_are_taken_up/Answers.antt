use Rattle.front_laws.proofs.RepeatLaws.{purges-alone}
use Rattle.front_laws.proofs.repeat_laws.purges_are_taken_up.Goals as goal

pub returns : goal.returns
returns c = λ a x given later n is. purges-alone a x given later n is.read is.got
