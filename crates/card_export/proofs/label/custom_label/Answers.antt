use Rattle.std.proofs.lemmas.Bool.Decides.{nat_tests}
use Rattle.std.proofs.Common.{arith, ◌≡◌, ◌+◌, ◌*◌, ◌-◌, refl, false}
use Rattle.std.specs.Prelude.{length, nat_lt}
use Rattle.card_export.proofs.label.custom_label.Goals as goal

pub returns : goal.returns
returns c =
    let long : nat_lt (length c.args.block.now) (282 + 16 * (14 + c.args.number) + 16) ≡ false = grind (arith, nat_tests) in
    let size : (282 + 16 * (14 + c.args.number) + 16) - (282 + 16 * (14 + c.args.number)) ≡ 16 = omega arith in
    rw (long, c.until_zero.ensures, size) refl
