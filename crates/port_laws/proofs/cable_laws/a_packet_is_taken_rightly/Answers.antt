use Rattle.port_laws.proofs.MomentLaws.{takes}
use Rattle.port_laws.proofs.cable_laws.a_packet_is_taken_rightly.Goals as goal

pub returns : goal.returns
returns c = takes
