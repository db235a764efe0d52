use Rattle.device_stream.proofs.HandLaws.{takes-again}
use Rattle.device_stream.proofs.laws.a_repeat_does_nothing.Goals as goal

pub returns : goal.returns
returns c old new packet said takes = takes-again old new packet said takes
