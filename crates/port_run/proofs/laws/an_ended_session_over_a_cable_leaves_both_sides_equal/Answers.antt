use Rattle.port_run.proofs.EqualLaws.{ends-equal}
use Rattle.port_run.proofs.laws.an_ended_session_over_a_cable_leaves_both_sides_equal.Goals as goal

pub returns : goal.returns
returns c = ends-equal
