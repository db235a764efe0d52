use Rattle.std.proofs.Common.{sym}
use Rattle.session_plan.proofs.LimitLaws.{from_slice}
use Rattle.session_plan.proofs.limits.entries_from.Goals as goal

pub returns-in-Some : goal.returns-in-Some
returns-in-Some c = from_slice c.args.id c.args.view.now c.in-Some.place (sym c.in-Some.ensures.place)
