use Rattle.run_promises.proofs.HeadlineLaws.{acts-once}
use Rattle.run_promises.proofs.promises.what_is_sent_acts_at_most_once.Goals as goal

pub returns : goal.returns
returns c = acts-once
