use Rattle.device_stream.proofs.AlikeLaws.{hand_of-same}
use Rattle.device_stream.proofs.laws.parts_of_a_talk_are_one.Goals as goal

pub returns : goal.returns
returns c = hand_of-same
