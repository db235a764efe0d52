use Rattle.std.proofs.lemmas.Grind.{common_steps}
use Rattle.std.proofs.Common.{arith}
use Rattle.palm_records.specs.Addresses.{address_value}
use Rattle.card_export.proofs.GrowthLaws.{other_names}
use Rattle.card_export.proofs.name.other_name.Goals as goal

pub returns : goal.returns
returns c = other_names _ (address_value c.args.address.now) (grind (arith, common_steps))
