use Rattle.std.proofs.Common.{◌≡◌, ◌+◌, ◌≤◌, drop}
use Rattle.session_plan.specs.PlannedLimits.{unseen_count}
use Rattle.session_plan.proofs.limits.unseen_count.Given as goal

abbrev pub invariant-loop-row : goal.invariant-loop-row
invariant-loop-row l = record {
  left : l.count + unseen_count l.ahead (drop l.row-index l.rows) ≡ unseen_count l.view l.rows;
  few : l.count ≤ l.row-index;
}
