use Rattle.palm_records.specs.Addresses.{address_value}
use Rattle.card_export.proofs.GrowthLaws.{phones-grown}
use Rattle.card_export.proofs.phone.push_phones.Goals as goal

pub returns : goal.returns
returns c =
    phones-grown (address_value c.args.address.now) _ _ _ _ _ _ c.in_ok-push_phone.ensures c.in_ok-push_phone-2.ensures c.in_ok-push_phone-3.ensures
    c.in_ok-push_phone-4.ensures c.in_ok-push_phone-5.ensures
