use Rattle.std.proofs.Common.{◌≡◌, drop}
use Rattle.desk_store.specs.Desks.{all_rows}
use Rattle.desk_store.specs.Views.{shelves_in}
use Rattle.session_plan.specs.PlannedLimits.{over_planned}
use Rattle.session_plan.proofs.limits.first_over.Given as goal

abbrev pub invariant-loop-one : goal.invariant-loop-one
invariant-loop-one g l =
    over_planned (shelves_in l.desk) l.handhelds l.desktops (drop l.one-index l.planned)
    ≡ over_planned (shelves_in l.desk) l.listed (all_rows l.desk.slots) l.planned
