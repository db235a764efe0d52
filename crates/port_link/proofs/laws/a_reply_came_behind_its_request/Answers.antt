use Rattle.port_link.proofs.PartLaws.{converses-answered}
use Rattle.port_link.proofs.laws.a_reply_came_behind_its_request.Goals as goal

pub returns : goal.returns
returns c id request reply old new it = converses-answered id request reply old new it
