use Rattle.std.proofs.Common.{arith}
use Rattle.content_lines.proofs.ByteLaws.{plain-stem_of}
use Rattle.content_lines.proofs.stem.stem_is_plain.Goals as goal

pub returns : goal.returns
returns c = plain-stem_of c.args.name.now (λ i. omega (arith, c.type_inv.name i))
