use Rattle.port_laws.proofs.StageLaws.{desk_replied}
use Rattle.port_laws.proofs.laws.a_reply_is_to_its_request.Goals as goal

pub returns : goal.returns
returns c = desk_replied
