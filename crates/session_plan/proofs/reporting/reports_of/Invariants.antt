use Rattle.std.proofs.Common.{◌≡◌, map, take}
use Rattle.desk_store.specs.Views.{shelves_in}
use Rattle.session_plan.specs.PlannedReports.{report_planned}
use Rattle.session_plan.proofs.reporting.reports_of.Given as goal

abbrev pub invariant-loop-one : goal.invariant-loop-one
invariant-loop-one g l = l.made.items ≡ map (report_planned (shelves_in l.desk)) (take l.one-index l.planned)
