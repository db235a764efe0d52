use Rattle.port_laws.proofs.MomentLaws.{expects}
use Rattle.port_laws.proofs.cable_laws.a_message_may_be_awaited.Goals as goal

pub returns : goal.returns
returns c = expects
