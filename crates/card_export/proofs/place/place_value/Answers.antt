use Rattle.std.proofs.lemmas.Grind.{common_steps}
use Rattle.std.proofs.Common.{arith}
use Rattle.palm_records.specs.Addresses.{address_value}
use Rattle.card_export.specs.Exports.{place_of}
use Rattle.card_export.proofs.GrowthLaws.{place_parts_value}
use Rattle.card_export.proofs.place.place_value.Goals as goal

pub returns : goal.returns
returns c = place_parts_value _ (place_of (address_value c.args.address.now)) (grind (arith, common_steps))
