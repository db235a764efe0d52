use Rattle.std.proofs.lemmas.Str.Ascii.{encode_ascii}
use Rattle.std.proofs.Common.{arith, ◌<◌}
use Rattle.std.proofs.lemmas.Grind.{common_steps}
use Rattle.std.proofs.lemmas.Bool.Decides.{nat_tests}
use Rattle.cmd_status.proofs.printed_name.push_byte.Goals as goal

pub returns-then-stands_alone : goal.returns-then-stands_alone
returns-then-stands_alone c =
    let low : c.args.byte < 128 = grind (arith, nat_tests) in
    grind (arith, common_steps, encode_ascii)
