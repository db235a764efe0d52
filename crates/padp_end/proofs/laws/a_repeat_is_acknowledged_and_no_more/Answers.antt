use Rattle.padp_end.proofs.TakingLaws.{end_takes-again}
use Rattle.padp_end.proofs.laws.a_repeat_is_acknowledged_and_no_more.Goals as goal

pub returns : goal.returns
returns c end packet = end_takes-again end packet
