use Rattle.std.proofs.lemmas.Grind.{common_steps}
use Rattle.std.proofs.lemmas.Bool.Decides.{nat_tests}
use Rattle.std.proofs.Common.{arith}
use Rattle.card_export.proofs.GrowthLaws.{full_name-grown}
use Rattle.card_export.proofs.name.push_full_name.Goals as goal

pub returns : goal.returns
returns c = full_name-grown _ _ c.args.first.now c.args.last.now (grind (arith, nat_tests)) (grind (arith, nat_tests)) (grind (arith, common_steps))
