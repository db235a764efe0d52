use Rattle.std.proofs.lemmas.Grind.{common_steps}
use Rattle.std.proofs.Common.{arith}
use Rattle.card_export.proofs.GrowthLaws.{name_parts_value}
use Rattle.card_export.proofs.name.names_value.Goals as goal

pub returns : goal.returns
returns c = name_parts_value _ c.args.last.now c.args.first.now (grind (arith, common_steps))
