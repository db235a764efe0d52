use Rattle.std.proofs.Common.{◌≡◌, ◌++◌}
use Rattle.session_plan.proofs.building.fill.Given as goal

abbrev pub invariant-loop-item : goal.invariant-loop-item
invariant-loop-item l = l.database ≡ record l.fn.database { records = l.fn.database.records ++ l.yielded }
