use Rattle.mirrors.proofs.PlanLaws.{planned_alike}
use Rattle.mirrors.proofs.laws.fast_readings_are_planned_as_slow_ones.Goals as goal

pub returns : goal.returns
returns c = λ base records rows counts honest action plan. planned_alike action base records rows counts plan honest
