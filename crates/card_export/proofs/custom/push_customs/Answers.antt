use Rattle.palm_records.specs.Addresses.{address_value}
use Rattle.card_export.proofs.GrowthLaws.{customs-grown}
use Rattle.card_export.proofs.custom.push_customs.Goals as goal

pub returns : goal.returns
returns c =
    customs-grown c.args.block.now (address_value c.args.address.now) _ _ _ _ _ c.in_ok-push_custom.ensures c.in_ok-push_custom-2.ensures
    c.in_ok-push_custom-3.ensures c.in_ok-push_custom-4.ensures
