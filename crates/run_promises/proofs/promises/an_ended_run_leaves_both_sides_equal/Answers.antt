use Rattle.run_promises.proofs.EqualLaws.{ends-equal}
use Rattle.run_promises.proofs.promises.an_ended_run_leaves_both_sides_equal.Goals as goal

pub returns : goal.returns
returns c = ends-equal
