use Rattle.run_promises.proofs.HeadlineLaws.{cause-told}
use Rattle.run_promises.proofs.promises.a_stop_has_the_cause_that_is_told.Goals as goal

pub returns : goal.returns
returns c = cause-told
