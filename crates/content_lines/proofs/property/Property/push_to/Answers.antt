use Rattle.std.proofs.lemmas.Grind.{common_steps}
use Rattle.std.proofs.Common.{arith}
use Rattle.content_lines.proofs.PropertyLaws.{line_chars}
use Rattle.content_lines.proofs.property.Property.push_to.Goals as goal

pub returns : goal.returns
returns c =
    let line = line_chars c.as_str-3.result.now c.as_str.result.now c.as_str-2.result.now (grind arith) c.as_str-2.utf8 (grind (arith, common_steps)) in
    grind (arith, common_steps, line)
