use Rattle.port_laws.proofs.DeskLaws.{desk_takes}
use Rattle.port_laws.proofs.laws.packets_may_come.Goals as goal

pub returns : goal.returns
returns c = desk_takes
