use Rattle.std.proofs.lemmas.Str.Ascii.{encode_ascii}
use Rattle.std.proofs.Common.{arith, ◌<◌}
use Rattle.std.proofs.lemmas.Grind.{common_steps}
use Rattle.std.proofs.lemmas.Bool.Decides.{nat_tests}
use Rattle.file_text.proofs.escaped.push_other.Goals as goal

pub returns-then-is_printable : goal.returns-then-is_printable
returns-then-is_printable c =
    let low : c.args.byte < 128 = grind (arith, nat_tests) in
    grind (arith, common_steps, encode_ascii)
