use Rattle.port_laws.proofs.MomentLaws.{loses}
use Rattle.port_laws.proofs.cable_laws.a_packet_may_be_lost.Goals as goal

pub returns : goal.returns
returns c = loses
