use Rattle.std.proofs.Common.{◌+◌, ◌*◌, ◌≤◌, length, map}
use Rattle.std.specs.Option.{option_copied}
use Rattle.conduit_rules.proofs.CountedLaws.{IsPass}
use Rattle.conduit_rules.proofs.planner.plan_counted.Given as goal

abbrev pub invariant-loop-front : goal.invariant-loop-front
invariant-loop-front g l = record {
  pass : IsPass l.action l.fn.view.list l.fn.rows.list l.fn.base.list l.gone_counts l.view.ahead l.rows.ahead l.base.ahead
      (map option_copied l.slots.items) l.draft l.next;
  bound : l.steps + 4 * (length l.view.ahead + length l.rows.ahead + length l.base.ahead) ≤ l.fn.steps + 4 *
      (length l.fn.view.list + length l.fn.rows.list + length l.fn.base.list);
}

abbrev pub decreases-loop-front : goal.decreases-loop-front
decreases-loop-front g l = length l.view.ahead + length l.rows.ahead + length l.base.ahead
