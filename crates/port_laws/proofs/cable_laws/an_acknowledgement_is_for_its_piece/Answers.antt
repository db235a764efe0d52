use Rattle.port_laws.proofs.MomentLaws.{acked_by-stamp}
use Rattle.port_laws.proofs.cable_laws.an_acknowledgement_is_for_its_piece.Goals as goal

pub returns : goal.returns
returns c = acked_by-stamp
