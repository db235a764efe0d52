use Rattle.device_state.proofs.StateLaws.{state-one}
use Rattle.device_state.proofs.laws.a_state_is_one_handheld.Goals as goal

pub returns : goal.returns
returns c = state-one
