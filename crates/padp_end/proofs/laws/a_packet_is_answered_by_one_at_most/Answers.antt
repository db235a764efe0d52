use Rattle.padp_end.proofs.TakingLaws.{end_takes-few}
use Rattle.padp_end.proofs.laws.a_packet_is_answered_by_one_at_most.Goals as goal

pub returns : goal.returns
returns c end packet = end_takes-few end packet
