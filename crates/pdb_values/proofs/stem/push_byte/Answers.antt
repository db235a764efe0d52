use Rattle.std.proofs.lemmas.Str.Ascii.{encode_ascii}
use Rattle.std.proofs.Common.{arith, ◌<◌}
use Rattle.std.proofs.lemmas.Grind.{common_steps}
use Rattle.std.proofs.lemmas.Bool.Decides.{nat_tests}
use Rattle.pdb_values.specs.Stems.{stem_byte}
use Rattle.pdb_values.proofs.stem.push_byte.Goals as goal

pub returns-in_ok-push : goal.returns-in_ok-push
unfolding stem_byte
returns-in_ok-push c =
    let low : c.args.byte < 128 = grind (arith, nat_tests) in
    grind (arith, common_steps, encode_ascii)

pub returns-in_ok-push-4 : goal.returns-in_ok-push-4
unfolding stem_byte
returns-in_ok-push-4 c = grind (arith, common_steps, encode_ascii)
