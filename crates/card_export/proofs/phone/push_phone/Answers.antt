use Rattle.std.proofs.lemmas.Bool.Decides.{nat_tests}
use Rattle.std.proofs.lemmas.Grind.{common_steps}
use Rattle.std.proofs.Common.{◌≡◌, ◌∙◌, ◌++◌, arith, ap, true, false}
use Rattle.palm_records.specs.Addresses.{address_value}
use Rattle.content_lines.specs.Properties.{is_name}
use Rattle.content_lines.proofs.ByteLaws.{is_name-append}
use Rattle.card_export.specs.Exports.{has_number, phone_of}
use Rattle.card_export.proofs.GrowthLaws.{phone_absent, phone_there}
use Rattle.card_export.proofs.phone.push_phone.Goals as goal

pub push_text-requires : goal.push_text-requires
push_text-requires c =
    let name : c.as_str.result.now ≡ c.kind_words.result.now ++ c.preference.result.now = grind (arith, common_steps) in
    ap is_name name ∙ is_name-append c.kind_words.result.now c.preference.result.now c.kind_words.ensures.proper c.preference.ensures.proper

pub returns-then-is_empty : goal.returns-then-is_empty
returns-then-is_empty c =
    let absent : has_number (phone_of (address_value c.args.address.now) c.args.place) ≡ false = grind (arith, nat_tests) in
    phone_absent _ (address_value c.args.address.now) c.args.place absent

pub returns : goal.returns
returns c =
    let there : has_number (phone_of (address_value c.args.address.now) c.args.place) ≡ true = grind (arith, nat_tests) in
    phone_there _ _ c.as_str.result.now _ (address_value c.args.address.now) c.args.place there c.in_ok-push_text.ensures.property (grind (arith, common_steps))
    c.phone_text-number.ensures
