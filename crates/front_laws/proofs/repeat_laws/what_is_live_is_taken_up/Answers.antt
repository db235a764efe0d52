use Rattle.front_laws.proofs.RepeatLaws.{baseless-alone}
use Rattle.front_laws.proofs.repeat_laws.what_is_live_is_taken_up.Goals as goal

pub returns : goal.returns
returns c = baseless-alone
