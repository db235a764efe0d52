use Rattle.std.proofs.lemmas.Bool.Decides.{nat_tests}
use Rattle.std.proofs.Common.{◌≡◌, arith, true, false}
use Rattle.palm_records.specs.Addresses.{address_value}
use Rattle.card_export.specs.Exports.{custom_of, has_text}
use Rattle.card_export.proofs.GrowthLaws.{custom_absent, custom_there}
use Rattle.card_export.proofs.custom.push_custom.Goals as goal

pub returns-then-is_empty : goal.returns-then-is_empty
returns-then-is_empty c =
    let absent : has_text (custom_of c.args.block.now (address_value c.args.address.now) c.args.number) ≡ false = grind (arith, nat_tests) in
    custom_absent _ c.args.block.now (address_value c.args.address.now) c.args.number absent

pub returns : goal.returns
returns c =
    let there : has_text (custom_of c.args.block.now (address_value c.args.address.now) c.args.number) ≡ true = grind (arith, nat_tests) in
    custom_there _ _ _ _ _ _ _ c.args.block.now (address_value c.args.address.now) c.args.number there c.custom_name.ensures.name c.label_name.ensures.name
    c.field-custom.ensures c.custom_label.ensures c.in_ok-push_text.ensures.property c.in_ok-push_given.ensures.property
