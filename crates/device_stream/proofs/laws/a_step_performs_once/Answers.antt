use Rattle.device_stream.proofs.HandLaws.{takes-once}
use Rattle.device_stream.proofs.laws.a_step_performs_once.Goals as goal

pub returns : goal.returns
returns c old new packet said takes = takes-once old new packet said takes
