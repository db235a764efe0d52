use Rattle.run_promises.proofs.LifeCalls.{first-life, life-of_calls}
use Rattle.run_promises.proofs.PartCalls.{life-anew, sides-left}
use Rattle.run_promises.proofs.promises.a_life_of_runs_loses_nothing.Goals as goal

pub returns : goal.returns
returns c = record { life = life-of_calls; first = first-life; again = life-anew; left = sides-left }
