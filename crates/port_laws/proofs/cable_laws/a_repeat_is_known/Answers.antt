use Rattle.port_laws.proofs.MomentLaws.{known_by-stamp}
use Rattle.port_laws.proofs.cable_laws.a_repeat_is_known.Goals as goal

pub returns : goal.returns
returns c = known_by-stamp
