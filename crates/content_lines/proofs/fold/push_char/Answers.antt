use Rattle.std.proofs.lemmas.Grind.{common_steps}
use Rattle.std.proofs.Common.{rules}
use Rattle.std.proofs.Common.{arith}
use Rattle.content_lines.proofs.LineLaws.{text-next, text-same}
use Rattle.content_lines.proofs.fold.push_char.Goals as goal

pub returns-then-used-width-gt75-clause-text : goal.returns-then-used-width-gt75-clause-text
returns-then-used-width-gt75-clause-text c cs =
    text-next _ _ c.args.used c.len_utf8-width.result c.args.ch cs c.len_utf8-width.ensures.value (search rules) (grind (arith, common_steps))

pub returns-clause-text : goal.returns-clause-text
returns-clause-text c cs =
    text-same _ _ c.args.used c.len_utf8-width.result c.args.ch cs c.len_utf8-width.ensures.value (search rules) (grind (arith, common_steps))
