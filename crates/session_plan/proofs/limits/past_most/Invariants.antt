use Rattle.std.proofs.Common.{◌≡◌, drop}
use Rattle.session_plan.specs.PlannedLimits.{past_room}
use Rattle.session_plan.proofs.limits.past_most.Given as goal

abbrev pub invariant-loop-one : goal.invariant-loop-one
invariant-loop-one l = past_room l.room (drop l.one-index l.planned) ≡ past_room 200 l.planned
