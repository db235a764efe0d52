use Rattle.content_lines.proofs.LineLaws.{unescaped-escaped}
use Rattle.content_lines.proofs.laws.values_are_read_again.Goals as goal

pub returns : goal.returns
returns c = unescaped-escaped
