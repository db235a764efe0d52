use Rattle.port_laws.proofs.StageLaws.{desk_woken}
use Rattle.port_laws.proofs.laws.a_first_message_is_the_wake.Goals as goal

pub returns : goal.returns
returns c = desk_woken
