use Rattle.front_laws.proofs.RepeatLaws.{handheld-alone}
use Rattle.front_laws.proofs.repeat_laws.a_handheld_is_read_again.Goals as goal

pub returns : goal.returns
returns c = handheld-alone
