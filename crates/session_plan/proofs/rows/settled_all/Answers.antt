-- One record more, behind the others.
use Rattle.std.proofs.lemmas.Grind.{common_steps}
use Rattle.std.proofs.lemmas.List.{map-append}
use Rattle.std.proofs.Common.{arith}
use Rattle.session_plan.proofs.rows.settled_all.Goals as goal

pub loop-seen-preserved : goal.loop-seen-preserved
loop-seen-preserved c = grind (arith, common_steps, map-append)
