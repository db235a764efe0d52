use Rattle.run_promises.proofs.AgainCalls.{end-as_one}
use Rattle.run_promises.proofs.promises.stopped_runs_end_as_one.Goals as goal

pub returns : goal.returns
returns c = end-as_one
