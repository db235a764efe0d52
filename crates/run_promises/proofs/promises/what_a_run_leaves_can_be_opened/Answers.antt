use Rattle.run_promises.proofs.LeftGoodLaws.{again-well, left-good, left-openable}
use Rattle.run_promises.proofs.promises.what_a_run_leaves_can_be_opened.Goals as goal

pub returns : goal.returns
returns c = record { after = left-good; again = again-well; moments = left-openable }
