use Rattle.port_laws.proofs.MomentLaws.{begins}
use Rattle.port_laws.proofs.cable_laws.a_message_may_begin.Goals as goal

pub returns : goal.returns
returns c = begins
