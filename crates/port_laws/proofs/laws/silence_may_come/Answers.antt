use Rattle.port_laws.proofs.DeskLaws.{desk_waits}
use Rattle.port_laws.proofs.laws.silence_may_come.Goals as goal

pub returns : goal.returns
returns c = desk_waits
