use Rattle.padp_end.proofs.TakingLaws.{end_takes-whole}
use Rattle.padp_end.proofs.laws.a_message_is_whole.Goals as goal

pub returns : goal.returns
returns c end packet hears = let it = end_takes-whole end packet hears in (it.message, it.whole)
