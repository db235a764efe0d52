use Rattle.port_laws.proofs.StageLaws.{desk_expects}
use Rattle.port_laws.proofs.laws.a_reply_may_be_awaited.Goals as goal

pub returns : goal.returns
returns c = desk_expects
