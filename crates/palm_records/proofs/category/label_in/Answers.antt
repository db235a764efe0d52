use Rattle.std.proofs.lemmas.Bool.Decides.{nat_tests}
use Rattle.std.proofs.Common.{arith, ◌≡◌, ◌∙◌, ◌+◌, ◌*◌, ◌-◌, refl, false}
use Rattle.std.specs.Prelude.{length, nat_lt}
use Rattle.palm_records.proofs.category.label_in.Goals as goal

pub returns : goal.returns
returns c =
    let long : nat_lt (length c.args.block.now) 276 ≡ false = grind (arith, nat_tests) in
    let is : c.from.result ≡ c.args.category = c.from.ensures ∙ c.number.ensures.number in
    let size : (2 + 16 * c.args.category + 16) - (2 + 16 * c.args.category) ≡ 16 = omega arith in
    rw (long, c.until_zero.ensures, is, size) refl
