use Rattle.device_state.proofs.CallLaws.{pieces-one}
use Rattle.device_state.proofs.laws.pieces_are_heard_as_one.Goals as goal

pub returns : goal.returns
returns c state bytes said more later last held x is turns =
    pieces-one state turns.next last bytes more said later x held turns.short is turns.first turns.second
