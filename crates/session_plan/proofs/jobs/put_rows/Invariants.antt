use Rattle.std.proofs.Common.{◌≡◌, take}
use Rattle.session_plan.proofs.PlanWords.{shelves_in, names_of, with_names}
use Rattle.session_plan.proofs.jobs.put_rows.Given as goal

abbrev pub invariant-loop-index : goal.invariant-loop-index
invariant-loop-index g l = l.names.items ≡ with_names (names_of (take l.index (shelves_in l.desk).rows)) l.fn.names.items
