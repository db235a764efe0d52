use Rattle.port_laws.proofs.MomentLaws.{says_again}
use Rattle.port_laws.proofs.cable_laws.a_piece_may_go_again.Goals as goal

pub returns : goal.returns
returns c = says_again
