use Rattle.run_promises.proofs.HeadlineLaws.{leaves-merge}
use Rattle.run_promises.proofs.promises.an_ended_session_leaves_both_sides_at_the_merge.Goals as goal

pub returns : goal.returns
returns c = leaves-merge
